-- A lane in which nothing stands yet: its slots are pushed into their lists, the last one first.
use Rattle.std.proofs.Common.{◌≡◌, ◌≢◌, ℕ, zero, suc, ◌+◌, ◌<◌, ◌≤◌, List, [], ◌∷◌, ◌++◌, length, get_or, set, replicate, Some, refl, ap, sym, subst, ◌∙◌, arith}
use Rattle.std.proofs.lemmas.List.{append-nil, get_or-set_same, get_or-set_other, length-set, length_push}
use Rattle.iscsi_slots.specs.Slots.{times}
use Rattle.iscsi_lists.specs.Lists.{Listed, counted, last_of, without, with_last}
use Rattle.iscsi_lists.proofs.WithoutLemmas.{end_append, times_other, without_append, without_none, without_same}
use Rattle.iscsi_outbox_state.specs.declared.lane.Standing.{Standing}
use Rattle.iscsi_lane.specs.Standings.{AllBehind, IsLane, NOBODY, StandAt, items_in, slots_at, standings, tally}
use Rattle.iscsi_lane.proofs.StandLemmas.{behind_append}

-- ---- numbers, counted up

counted_push : (m k : ℕ) → counted m (suc k) ≡ counted m k ++ (m + k) ∷ []
counted_push m zero = let e : m ≡ m + 0 = omega arith in ap (λ n. n ∷ []) e
counted_push m (suc k) = let e : suc m + k ≡ m + suc k = omega arith in ap (λ r. m ∷ r) (counted_push (suc m) k ∙ ap (λ n. counted (suc m) k ++ n ∷ []) e)

counted_high : (s n k : ℕ) → n + k ≤ s → times s (counted n k) ≡ 0
counted_high s n zero l = refl
counted_high s n (suc k) l = let a = times_other s n (counted (suc n) k) (λ e. omega (arith, e, l)) in let b = counted_high s (suc n) k (omega (arith, l)) in omega (arith, a, b)

last_pushed : (y : ℕ) (xs : List ℕ) → last_of (xs ++ y ∷ []) ≡ Some y
last_pushed y [] = refl
last_pushed y (x ∷ xs) = ap Some (end_append x xs (y ∷ []))

without_pushed : (y : ℕ) (xs : List ℕ) → times y xs ≡ 0 → without y (xs ++ y ∷ []) ≡ xs
without_pushed y xs none = without_append y xs (y ∷ []) ∙ ap (λ r. without y xs ++ r) (without_same y y [] refl) ∙ append-nil (without y xs) ∙ without_none y xs none

some_same : {a b : ℕ} → Some a ≡ Some b → a ≡ b
some_same e = cc

-- the last one of the numbers from 1 on is taken out
pub taken_is : (n slot : ℕ) → last_of (counted 1 (suc n)) ≡ Some slot → slot ≡ suc n
taken_is n slot last = some_same (sym last ∙ ap last_of (counted_push 1 n) ∙ last_pushed (1 + n) (counted 1 n)) ∙ (let e : 1 + n ≡ suc n = omega arith in e)

pub taken_rest : (n : ℕ) → without (suc n) (counted 1 (suc n)) ≡ counted 1 n
taken_rest n =
    let e : 1 + n ≡ suc n = omega arith in
    ap (without (suc n)) (counted_push 1 n ∙ ap (λ k. counted 1 n ++ k ∷ []) e)
    ∙ without_pushed (suc n) (counted 1 n) (counted_high (suc n) 1 n (omega arith))

-- ---- slots are pushed

behind_less : (n m : ℕ) (slots : List ℕ) → m ≤ n → AllBehind n slots → AllBehind m slots
behind_less n m [] l all = tt
behind_less n m (s ∷ slots) l all = ((let a = all.0 in omega (arith, a, l)), behind_less n m slots l all.1)

-- n slots are free still
pub record IsOpening (log : Listed Standing) (bound n done places : ℕ) : Type 0 where
  pub free : log.free ≡ counted 1 n
  pub behind : AllBehind bound (slots_at log 1)
  pub long : length (slots_at log 1) ≡ done
  pub none : slots_at log 2 ≡ []
  pub lists : length log.lists ≡ 3
  pub slots : log.room ≡ places

none_at : (n k : ℕ) → get_or (replicate {A = List ℕ} n []) k [] ≡ []
none_at zero zero = refl
none_at zero (suc k) = refl
none_at (suc n) zero = refl
none_at (suc n) (suc k) = none_at n k

pub begins : (log : Listed Standing) (places : ℕ) → log ≡ record { free = counted 1 places; lists = replicate 3 []; room = places; values = replicate (places + 1) NOBODY } → IsOpening log places places 0 places
begins log places is = record {
  free = ap (λ (u : Listed Standing). u.free) is;
  behind = subst (AllBehind places) (sym (ap (λ (u : Listed Standing). slots_at u 1) is ∙ none_at 3 1)) tt;
  long = ap length (ap (λ (u : Listed Standing). slots_at u 1) is ∙ none_at 3 1);
  none = ap (λ (u : Listed Standing). slots_at u 2) is ∙ none_at 3 2;
  lists = ap (λ (u : Listed Standing). length u.lists) is;
  slots = ap (λ (u : Listed Standing). u.room) is;
}

module _ (s t : Listed Standing) (list slot : ℕ) (x : Standing) (is : t ≡ record s { free = without slot s.free; lists = with_last list slot s.lists; values = set s.values slot x }) (l : list < length s.lists) where
  pushed_here : slots_at t list ≡ slots_at s list ++ slot ∷ []
  pushed_here = ap (λ (u : Listed Standing). slots_at u list) is ∙ get_or-set_same s.lists list (slots_at s list ++ slot ∷ []) [] l

  pushed_other : (k : ℕ) → k ≢ list → slots_at t k ≡ slots_at s k
  pushed_other k other = ap (λ (u : Listed Standing). slots_at u k) is ∙ get_or-set_other s.lists list k (slots_at s list ++ slot ∷ []) [] other

  pushed_long : length t.lists ≡ length s.lists
  pushed_long = ap (λ (u : Listed Standing). length u.lists) is ∙ length-set s.lists list (slots_at s list ++ slot ∷ [])

-- the slot of an answer
pub answer_opens : (s t : Listed Standing) (n m done places slot : ℕ) (x : Standing) → IsOpening s n n done places → n ≡ suc m → last_of s.free ≡ Some slot
    → t ≡ record s { free = without slot s.free; lists = with_last 1 slot s.lists; values = set s.values slot x } → IsOpening t m m (done + 1) places
answer_opens s t n m done places slot x o next last is =
    let l : 1 < length s.lists = (let a = o.lists in omega (arith, a)) in
    let free = o.free ∙ ap (counted 1) next in
    let at : slot ≡ suc m = taken_is m slot (ap last_of (sym free) ∙ last) in
    record {
      free = ap (λ (u : Listed Standing). u.free) is ∙ ap (without slot) free ∙ ap (λ k. without k (counted 1 (suc m))) at ∙ taken_rest m;
      behind = subst (AllBehind m) (sym (pushed_here s t 1 slot x is l)) (behind_append m (slots_at s 1) (slot ∷ []) (behind_less n m (slots_at s 1) (omega (arith, next)) o.behind) (omega (arith, at), tt));
      long = let a = ap length (pushed_here s t 1 slot x is l) in let b = length_push (slots_at s 1) slot in let c = o.long in omega (arith, a, b, c);
      none = pushed_other s t 1 slot x is l 2 (λ e. omega (arith, e)) ∙ o.none;
      lists = pushed_long s t 1 slot x is l ∙ o.lists;
      slots = ap (λ (u : Listed Standing). u.room) is ∙ o.slots;
    }

-- the place of a command
pub place_opens : (s t : Listed Standing) (bound n m done places slot : ℕ) (x : Standing) → IsOpening s bound n done places → n ≡ suc m → last_of s.free ≡ Some slot
    → t ≡ record s { free = without slot s.free; lists = with_last 0 slot s.lists; values = set s.values slot x } → IsOpening t bound m done places
place_opens s t bound n m done places slot x o next last is =
    let l : 0 < length s.lists = (let a = o.lists in omega (arith, a)) in
    let free = o.free ∙ ap (counted 1) next in
    let at : slot ≡ suc m = taken_is m slot (ap last_of (sym free) ∙ last) in
    record {
      free = ap (λ (u : Listed Standing). u.free) is ∙ ap (without slot) free ∙ ap (λ k. without k (counted 1 (suc m))) at ∙ taken_rest m;
      behind = subst (AllBehind bound) (sym (pushed_other s t 0 slot x is l 1 (λ e. omega (arith, e)))) o.behind;
      long = ap length (pushed_other s t 0 slot x is l 1 (λ e. omega (arith, e))) ∙ o.long;
      none = pushed_other s t 0 slot x is l 2 (λ e. omega (arith, e)) ∙ o.none;
      lists = pushed_long s t 0 slot x is l ∙ o.lists;
      slots = ap (λ (u : Listed Standing). u.room) is ∙ o.slots;
    }

pub some_left : (s : Listed Standing) (bound n m done places : ℕ) → IsOpening s bound n done places → n ≡ suc m → 1 ≤ length s.free
some_left s bound n m done places o next = let e = ap length (o.free ∙ ap (counted 1) next) in omega (arith, e)

-- all are
pub opened : (s : Listed Standing) (commands answers n : ℕ) → IsOpening s commands n answers (commands + answers) → n ≡ 0 → IsLane s commands answers 0 0 0
opened s commands answers n o all =
    let nothing : items_in s ≡ [] = ap (standings s.values) o.none in
    record {
      standing = record {
        all = o.free ∙ ap (counted 1) all;
        lists = o.lists;
        behind = o.behind;
        stand = subst (StandAt commands s.values) (sym o.none) tt;
        most = let a = o.slots in omega (arith, a);
      };
      slots = o.slots;
      left = sym (ap (tally _) nothing);
      undue = sym (ap (tally _) nothing);
      of_numbered = sym (ap (tally _) nothing);
      rest = let a = o.long in omega (arith, a);
    }

pub opened_items : (s : Listed Standing) (bound n done places : ℕ) → IsOpening s bound n done places → items_in s ≡ []
opened_items s bound n done places o = ap (standings s.values) o.none
