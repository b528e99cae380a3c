-- Which answer of a line is due, by its two parts.
use Rattle.std.proofs.Common.{◌≡◌, ◌≢◌, ℕ, ◌==◌, ◌||◌, ◌&&◌, not, cond, Bool, true, false, List, [], ◌∷◌, ◌++◌, get_or, Option, Some, None, refl, ap, sym, subst, ◌∙◌, ⊎_elim, append_assoc, ne_eqb}
use Rattle.std.specs.List.{list_any}
use Rattle.std.proofs.lemmas.Bool.{cases_Bool, cases_eq, true≢false, false≢true, or_left, or_right, or_parts, eqb-true}
use Rattle.std.proofs.lemmas.List.{append-nil}
use Rattle.iscsi_lists.specs.Lists.{Listed, first_of}
use Rattle.iscsi_lists.proofs.ClearLemmas.{none_first}
use Rattle.iscsi_lines.specs.declared.item.Owing.{Owing}
use Rattle.iscsi_lines.specs.declared.item.Item.{Item}
use Rattle.iscsi_lines.specs.declared.item.Item.TheVariants.{Command, Answer}
use Rattle.iscsi_lines.specs.Lines.{BLANK, owes, holds_back, is_answer, conn_of, items_of, due_behind, due_in}
use Rattle.iscsi_lines.specs.Settling.{AllAre, is_ahead, is_none, may_stand, comes_ahead, settles, IsLine, items_at, slots_at}
use Rattle.iscsi_lines.proofs.SettleLemmas.{begun, not_none_items}

-- ---- what is ahead

ahead_no_answer : (conn : ℕ) (x : Item) → is_ahead conn x ≡ true → is_answer x ≡ false
ahead_no_answer conn (Command c) on = refl
ahead_no_answer conn (Answer other) on = absurd (false≢true on)

free_of : (r u s : Bool) → (not r && (u && s)) ≡ true → (r || (u && not s)) ≡ false
free_of true u s on = absurd (false≢true on)
free_of false true true on = refl
free_of false true false on = absurd (false≢true on)
free_of false false s on = absurd (false≢true on)

-- it holds back no answer on its connection
passes : (conn : ℕ) (x : Item) → is_ahead conn x ≡ true → holds_back conn x ≡ false
passes conn (Command c) on = free_of c.running c.under_way (c.conn == conn) on
passes conn (Answer other) on = refl

pub none_held : (conn : ℕ) (xs : List Item) → AllAre (is_ahead conn) xs → list_any (holds_back conn) xs ≡ false
none_held conn [] all = refl
none_held conn (x ∷ xs) all = ap (λ b. b || list_any (holds_back conn) xs) (passes conn x all.0) ∙ none_held conn xs all.1

held_other : (r u s t : Bool) → (not r && (u && s)) ≡ true → (s ≡ true → t ≡ false) → (r || (u && not t)) ≡ true
held_other true u s t on other = absurd (false≢true on)
held_other false true true t on other = ap not (other refl)
held_other false true false t on other = absurd (false≢true on)
held_other false false s t on other = absurd (false≢true on)

-- and each one on another connection
holds : (conn other : ℕ) (x : Item) → is_ahead conn x ≡ true → conn ≢ other → holds_back other x ≡ true
holds conn other (Command c) on apart = held_other c.running c.under_way (c.conn == conn) (c.conn == other) on
    (λ same. ne_eqb c.conn other (λ e. apart (sym (eqb-true c.conn conn same) ∙ e)))
holds conn other (Answer c) on apart = absurd (false≢true on)

pub some_held : (conn other : ℕ) (xs : List Item) → AllAre (is_ahead conn) xs → is_none xs ≡ false → conn ≢ other → list_any (holds_back other) xs ≡ true
some_held conn other [] all some apart = absurd (true≢false some)
some_held conn other (x ∷ xs) all some apart = or_left (holds_back other x) (list_any (holds_back other) xs) (holds conn other x all.0 apart)

-- ---- an answer is looked for

passed : (values : List Item) (before : List Item) (s : ℕ) (slots : List ℕ) → is_answer (get_or values s BLANK) ≡ false
    → due_behind values before (s ∷ slots) ≡ due_behind values (before ++ get_or values s BLANK ∷ []) slots
passed values before s slots off = ap (λ b. cond b (cond (list_any (holds_back (conn_of (get_or values s BLANK))) before) None (Some s)) (due_behind values (before ++ get_or values s BLANK ∷ []) slots)) off

due_walk : (conn : ℕ) (values : List Item) (before : List Item) (xs ys : List ℕ) → AllAre (is_ahead conn) (items_of values xs) → due_behind values before (xs ++ ys) ≡ due_behind values (before ++ items_of values xs) ys
due_walk conn values before [] ys all = ap (λ r. due_behind values r ys) (sym (append-nil before))
due_walk conn values before (x ∷ xs) ys all =
    passed values before x (xs ++ ys) (ahead_no_answer conn (get_or values x BLANK) all.0)
    ∙ due_walk conn values (before ++ get_or values x BLANK ∷ []) xs ys all.1
    ∙ ap (λ r. due_behind values r ys) (append_assoc before (get_or values x BLANK ∷ []) (items_of values xs))

-- where each answer is held back by what stands before, none is due
any_append : (test : Item → Bool) (xs : List Item) (x : Item) → list_any test xs ≡ true → list_any test (xs ++ x ∷ []) ≡ true
any_append test [] x on = absurd (false≢true on)
any_append test (y ∷ ys) x on = elim (test y) as (λ b. (b || list_any test ys) ≡ true → (b || list_any test (ys ++ x ∷ [])) ≡ true) [
  | true ↦ λ e. refl
  | false ↦ λ e. any_append test ys x e
] on

any_last : (test : Item → Bool) (xs : List Item) (x : Item) → test x ≡ true → list_any test (xs ++ x ∷ []) ≡ true
any_last test [] x on = or_left (test x) false on
any_last test (y ∷ ys) x on = or_right (test y) (list_any test (ys ++ x ∷ [])) (any_last test ys x on)

none_due : (values : List Item) (before : List Item) (ys : List ℕ) → ((conn : ℕ) → list_any (holds_back conn) before ≡ true) → due_behind values before ys ≡ None
none_due values before [] held = refl
none_due values before (y ∷ ys) held =
    let item = get_or values y BLANK in
    ⊎_elim
    (λ on.
    ap (λ b. cond b (cond (list_any (holds_back (conn_of item)) before) None (Some y)) (due_behind values (before ++ item ∷ []) ys)) on
    ∙ ap (λ b. cond b None (Some y)) (held (conn_of item)))
    (λ off. passed values before y ys off ∙ none_due values (before ++ item ∷ []) ys (λ conn. any_append (holds_back conn) before item (held conn)))
    (cases_Bool (is_answer item))

first_due : (conn : ℕ) (values : List Item) (before : List Item) (y : ℕ) (ys : List ℕ) → get_or values y BLANK ≡ Answer conn
    → due_behind values before (y ∷ ys) ≡ cond (list_any (holds_back conn) before) None (Some y)
first_due conn values before y ys is = ap (λ i. cond (is_answer i) (cond (list_any (holds_back (conn_of i)) before) None (Some y)) (due_behind values (before ++ i ∷ []) ys)) is

-- a command that stays behind: it runs, or what is ahead is of another connection
runs_held : (r u s : Bool) → r ≡ true → (r || (u && not s)) ≡ true
runs_held r u s on = or_left r (u && not s) on

stays_held : (conn : ℕ) (ahead : List Item) (c : Owing) → AllAre (is_ahead conn) ahead → owes c ≡ true → comes_ahead conn ahead (Command c) ≡ false → (other : ℕ) → list_any (holds_back other) (ahead ++ Command c ∷ []) ≡ true
stays_held conn ahead c all owing stays other = ⊎_elim
    (λ runs. any_last (holds_back other) ahead (Command c) (runs_held c.running c.under_way (c.conn == other) runs))
    (λ rests.
    let way : c.under_way ≡ true = sym (ap (λ r. r || c.under_way) rests) ∙ owing in
    let kept : (c.conn == conn || is_none ahead) ≡ false = sym (ap (λ r. not r && (c.conn == conn || is_none ahead)) rests) ∙ stays in
    let parts = or_parts (c.conn == conn) (is_none ahead) kept in
    ⊎_elim
    (λ (same : conn ≡ other).
    any_last (holds_back other) ahead (Command c)
    (ap (λ r. r || (c.under_way && not (c.conn == other))) rests
    ∙ ap (λ u. u && not (c.conn == other)) way
    ∙ ap not (ap (λ k. c.conn == k) (sym same) ∙ parts.0)))
    (λ apart. any_append (holds_back other) ahead (Command c) (some_held conn other ahead all parts.1 apart))
    (cases_eq conn other))
    (cases_Bool c.running)

module _ (conn : ℕ) (values : List Item) (xs ys : List ℕ) (line : IsLine conn (items_of values xs) (items_of values ys)) where
  begin : due_in values (xs ++ ys) ≡ due_behind values (items_of values xs) ys
  begin = due_walk conn values [] xs ys line.passed

  pub due_none : ys ≡ [] → due_in values (xs ++ ys) ≡ None
  due_none none = begin ∙ ap (due_behind values (items_of values xs)) none

  pub due_answer : (s : ℕ) (rest : List ℕ) (other : ℕ) → ys ≡ s ∷ rest → get_or values s BLANK ≡ Answer other
      → due_in values (xs ++ ys) ≡ cond (list_any (holds_back other) (items_of values xs)) None (Some s)
  due_answer s rest other at is = begin ∙ ap (due_behind values (items_of values xs)) at ∙ first_due other values (items_of values xs) s rest is

  pub due_command : (s : ℕ) (rest : List ℕ) (c : Owing) → ys ≡ s ∷ rest → get_or values s BLANK ≡ Command c → due_in values (xs ++ ys) ≡ None
  due_command s rest c at is =
      let stand : may_stand (Command c) ≡ true = ap may_stand (sym is) ∙ (subst (λ r. AllAre may_stand (items_of values r)) at line.stand).0 in
      let settled : comes_ahead conn (items_of values xs) (Command c) ≡ false = ap (comes_ahead conn (items_of values xs)) (sym is) ∙ subst (λ r. settles conn (items_of values xs) (items_of values r)) at line.settled in
      begin ∙ ap (due_behind values (items_of values xs)) at
      ∙ passed values (items_of values xs) s rest (ap is_answer is)
      ∙ ap (λ i. due_behind values (items_of values xs ++ i ∷ []) rest) is
      ∙ none_due values (items_of values xs ++ Command c ∷ []) rest (stays_held conn (items_of values xs) c line.passed stand settled)

-- ---- as the calls have it

turned : {A : Type 0} (b : Bool) (x : Option A) → cond b None x ≡ cond (not b) x None
turned true x = refl
turned false x = refl

pub same_clear : (conn other : ℕ) (xs : List Item) → AllAre (is_ahead conn) xs → conn ≡ other → true ≡ not (list_any (holds_back other) xs)
same_clear conn other xs all same = ap not (sym (ap (λ k. list_any (holds_back k) xs) (sym same) ∙ none_held conn xs all))

pub empty_clear : (s : Listed Item) (line conn other : ℕ) (b : Bool) → AllAre (is_ahead conn) (items_at s line) → conn ≢ other → (b ≡ true → slots_at s line ≡ []) → (slots_at s line ≡ [] → b ≡ true)
    → b ≡ not (list_any (holds_back other) (items_at s line))
empty_clear s line conn other b all apart none some = ⊎_elim
    (λ on. on ∙ ap not (sym (ap (λ r. list_any (holds_back other) (items_of s.values r)) (none on))))
    (λ off.
    off
    ∙ ap not (sym (some_held conn other (items_at s line) all
    (not_none_items s line (λ e. true≢false (sym (some e) ∙ off))) apart)))
    (cases_Bool b)

module _ (s : Listed Item) (conn line behind : ℕ) (is : IsLine conn (items_at s line) (items_at s behind)) where
  pub due_at_none : None ≡ first_of (slots_at s behind) → None ≡ due_in s.values (slots_at s line ++ slots_at s behind)
  due_at_none none = sym (due_none conn s.values (slots_at s line) (slots_at s behind) is (none_first (slots_at s behind) (sym none)))

  pub due_at_command : (slot : ℕ) (c : Owing) → Some slot ≡ first_of (slots_at s behind) → get_or s.values slot BLANK ≡ Command c → None ≡ due_in s.values (slots_at s line ++ slots_at s behind)
  due_at_command slot c first item = let b = begun slot (slots_at s behind) (sym first) in sym (due_command conn s.values (slots_at s line) (slots_at s behind) is slot b.rest c b.at item)

  pub due_at_answer : (slot other : ℕ) → Some slot ≡ first_of (slots_at s behind) → get_or s.values slot BLANK ≡ Answer other
      → (b : Bool) → b ≡ not (list_any (holds_back other) (items_at s line)) → due_in s.values (slots_at s line ++ slots_at s behind) ≡ cond b (Some slot) None
  due_at_answer slot other first item b clear =
      let at = begun slot (slots_at s behind) (sym first) in
      due_answer conn s.values (slots_at s line) (slots_at s behind) is slot at.rest other at.at item
      ∙ turned (list_any (holds_back other) (items_at s line)) (Some slot)
      ∙ ap (λ x. cond x (Some slot) None) (sym clear)
