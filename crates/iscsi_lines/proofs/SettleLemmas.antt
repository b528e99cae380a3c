-- Commands come ahead in a line, one after the other.
use Rattle.std.proofs.Common.{◌≡◌, ◌≢◌, ℕ, ◌<◌, ◌≤◌, ◌==◌, ◌||◌, ◌&&◌, not, true, false, List, [], ◌∷◌, ◌++◌, length, map, get_or, Some, refl, ap, sym, subst, ◌∙◌, arith, ⊎_elim, eq-eqb}
use Rattle.std.proofs.lemmas.Bool.{false≢true, and_parts, not-true, or_cases, eqb-true, and_from}
use Rattle.std.proofs.lemmas.List.{length-map, length-set}
use Rattle.iscsi_slots.specs.Slots.{times}
use Rattle.iscsi_lists.specs.Lists.{Listed, AreApart, linked_in, times_in, without, with_last, first_of}
use Rattle.iscsi_lists.proofs.PlaceLemmas.{times_any, in_once}
use Rattle.iscsi_lists.proofs.WithoutLemmas.{append_one, times_same}
use Rattle.iscsi_lines.specs.declared.item.Owing.{Owing}
use Rattle.iscsi_lines.specs.declared.item.Item.{Item}
use Rattle.iscsi_lines.specs.declared.item.Item.TheVariants.{Command}
use Rattle.iscsi_lines.specs.Lines.{owes, items_of}
use Rattle.iscsi_lines.specs.Settling.{AllAre, may_stand, is_ahead, is_none, settles, IsLine, items_at, slots_at, ComesNext, IsSettling}
use Rattle.iscsi_lines.proofs.ItemLemmas.{items_append, all_append}
use Rattle.iscsi_lines.proofs.MoveLemmas.{moved_onto, moved_left, moved_others}

pub record Begun (s : ℕ) (xs : List ℕ) : Type 0 where
  pub rest : List ℕ
  pub at : xs ≡ s ∷ rest

pub begun : (s : ℕ) (xs : List ℕ) → first_of xs ≡ Some s → Begun s xs
begun s [] e = absurd (cc)
begun s (x ∷ xs) e = let same : x ≡ s = cc in record { rest = xs; at = ap (λ n. n ∷ xs) same }

-- items by the slots and the values that there are
pub items_by : (s t : Listed Item) (k : ℕ) (xs : List ℕ) → t.values ≡ s.values → slots_at t k ≡ xs → items_at t k ≡ items_of s.values xs
items_by s t k xs v e = ap (λ w. items_of w (slots_at t k)) v ∙ ap (items_of s.values) e

-- ---- whether there are items

some_items : (values : List Item) (xs : List ℕ) → (xs ≡ [] → ⊥) → is_none (items_of values xs) ≡ false
some_items values [] some = absurd (some refl)
some_items values (x ∷ xs) some = refl

pub not_none_items : (s : Listed Item) (k : ℕ) → (slots_at s k ≡ [] → ⊥) → is_none (items_at s k) ≡ false
not_none_items s k some = some_items s.values (slots_at s k) some

-- ---- one that comes ahead

is_ahead_there : (c : Owing) → not c.running ≡ true → owes c ≡ true → is_ahead c.conn (Command c) ≡ true
is_ahead_there c rests owing =
    let way : c.under_way ≡ true = sym (ap (λ r. r || c.under_way) (not-true c.running rests)) ∙ owing in
    and_from (not c.running) (c.under_way && c.conn == c.conn) rests (and_from c.under_way (c.conn == c.conn) way (eq-eqb c.conn c.conn refl))

-- what is ahead is of its connection
same_ahead : (conn : ℕ) (ahead : List Item) (c : Owing) → (c.conn == conn || is_none ahead) ≡ true → AllAre (is_ahead conn) ahead → AllAre (is_ahead c.conn) ahead
same_ahead conn [] c comes all = tt
same_ahead conn (x ∷ xs) c comes all = ⊎_elim
    (λ same. subst (λ k. AllAre (is_ahead k) (x ∷ xs)) (sym (eqb-true c.conn conn same)) all)
    (λ none. absurd (false≢true none))
    (or_cases (c.conn == conn) false comes)

pub settling_begins : (s : Listed Item) (conn ahead behind : ℕ) → AllAre (is_ahead conn) (items_at s ahead) → AllAre may_stand (items_at s behind) → IsSettling s s conn ahead behind
settling_begins s conn ahead behind passed stand = record {
  moves = record { whole = refl; same = record { others = λ k a b. refl; values = refl; free = refl; room = refl; lists = refl } };
  passed = passed;
  stand = stand;
}

module _ (old now next : Listed Item) (conn ahead behind s : ℕ) (c : Owing) (comes : ComesNext now conn ahead behind s c)
    (is : next ≡ record now { lists = with_last ahead s (map (without s) now.lists) })
    (apart : ahead ≢ behind) (within : ahead < length now.lists) (known : AreApart (linked_in now)) where
  b : Begun s (slots_at now behind)
  b = begun s (slots_at now behind) comes.first

  other : behind ≢ ahead
  other e = apart (sym e)

  there : 1 ≤ times_in s now.lists
  there = let x = ap (times s) b.at in let y = times_same s s b.rest refl in let z = times_any s behind now.lists in omega (arith, x, y, z)

  once : times_in s now.lists ≤ 1
  once = let x = in_once known s there in omega (arith, x)

  onto : slots_at next ahead ≡ slots_at now ahead ++ s ∷ []
  onto = ap (λ (u : Listed Item). slots_at u ahead) is ∙ moved_onto now.lists s behind ahead b.rest b.at other once within

  left : slots_at next behind ≡ b.rest
  left = ap (λ (u : Listed Item). slots_at u behind) is ∙ moved_left now.lists s behind ahead b.rest b.at other once

  values : next.values ≡ now.values
  values = ap (λ (u : Listed Item). u.values) is

  pub shorter : length (slots_at next behind) < length (slots_at now behind)
  shorter = let x = ap length left in let y = ap length b.at in omega (arith, x, y)

  pub settling : IsSettling old now conn ahead behind → IsSettling old next c.conn ahead behind
  settling p =
      let stands : AllAre may_stand (items_of now.values (s ∷ b.rest)) = subst (λ r. AllAre may_stand (items_of now.values r)) b.at p.stand in
      let owing : owes c ≡ true = ap may_stand (sym comes.item) ∙ stands.0 in
      let parts = and_parts (not c.running) (c.conn == conn || is_none (items_at now ahead)) comes.comes in
      record {
        moves = record {
          whole =
              ap (λ r. r ++ slots_at next behind) onto ∙ ap (λ r. (slots_at now ahead ++ s ∷ []) ++ r) left
              ∙ sym (append_one (slots_at now ahead) b.rest s) ∙ ap (λ r. slots_at now ahead ++ r) (sym b.at) ∙ p.moves.whole;
          same = record {
            others = λ k x y. ap (λ (u : Listed Item). slots_at u k) is ∙ moved_others now.lists s behind ahead b.rest b.at other once k y x ∙ p.moves.same.others k x y;
            values = values ∙ p.moves.same.values;
            free = ap (λ (u : Listed Item). u.free) is ∙ p.moves.same.free;
            room = ap (λ (u : Listed Item). u.room) is ∙ p.moves.same.room;
            lists =
                ap (λ (u : Listed Item). length u.lists) is
                ∙ length-set (map (without s) now.lists) ahead (get_or (map (without s) now.lists) ahead [] ++ s ∷ []) ∙ length-map now.lists (without s) ∙ p.moves.same.lists;
          };
        };
        passed = subst (AllAre (is_ahead c.conn))
            (sym (items_by now next ahead (slots_at now ahead ++ s ∷ []) values onto ∙ items_append now.values (slots_at now ahead) (s ∷ []) ∙ ap (λ i. items_at now ahead ++ i ∷ []) comes.item))
            (all_append (is_ahead c.conn) (items_at now ahead) (Command c ∷ []) (same_ahead conn (items_at now ahead) c parts.1 p.passed) (is_ahead_there c parts.0 owing, tt));
        stand = subst (AllAre may_stand) (sym (items_by now next behind b.rest values left)) stands.1;
      }

pub settling_ends : (old now : Listed Item) (conn ahead behind : ℕ) → IsSettling old now conn ahead behind → settles conn (items_at now ahead) (items_at now behind) → IsLine conn (items_at now ahead) (items_at now behind)
settling_ends old now conn ahead behind p settled = record { passed = p.passed; stand = p.stand; settled = settled }

pub comes_there : (now : Listed Item) (conn ahead behind s : ℕ) (c : Owing) → ComesNext now conn ahead behind s c → 1 ≤ times_in s now.lists
comes_there now conn ahead behind s c comes =
    let b = begun s (slots_at now behind) comes.first in
    let x = ap (times s) b.at in let y = times_same s s b.rest refl in let z = times_any s behind now.lists in omega (arith, x, y, z)

pub ahead_within : (old now : Listed Item) (conn ahead behind : ℕ) → IsSettling old now conn ahead behind → ahead < length old.lists → ahead < length now.lists
ahead_within old now conn ahead behind p l = let a = p.moves.same.lists in omega (arith, a, l)
