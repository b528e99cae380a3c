-- Numbers that go up along the log, as one comes and as one goes.
use Rattle.std.proofs.Common.{◌≡◌, ℕ, ◌+◌, ◌<◌, ◌≤◌, List, [], ◌∷◌, ◌++◌, length, set, Option, Some, None, refl, ap, sym, subst, ◌∙◌, arith, ⊎_elim}
use Rattle.std.proofs.lemmas.Bool.{cases_eq, cases_lt}
use Rattle.std.proofs.lemmas.List.{append-nil, get_or-set_same, get_or-set_other, length-set, length-append}
use Rattle.iscsi_slots.specs.Slots.{times}
use Rattle.iscsi_slots.proofs.SlotLemmas.{times_append}
use Rattle.iscsi_lists.specs.Lists.{AreApart, Listed, first_of, linked_in, times_in, without}
use Rattle.iscsi_lists.proofs.WithoutLemmas.{append_one, none_behind, not_first, times_same, without_other, without_same}
use Rattle.iscsi_lists.proofs.PlaceLemmas.{times_any}
use Rattle.iscsi_lines.proofs.MoveLemmas.{length_any}
use Rattle.iscsi_outbox_state.specs.declared.lane.Standing.{Standing}
use Rattle.iscsi_lane.specs.Standings.{slots_at}
use Rattle.iscsi_lane.specs.Times.{AllAfter, AllUnder, IsUp, time_of}

module _ (ts : List ℕ) (s n : ℕ) where
  pub under_fresh : (m : ℕ) (slots : List ℕ) → times s slots ≡ 0 → AllUnder ts m slots → AllUnder (set ts s n) m slots
  under_fresh m [] none all = tt
  under_fresh m (y ∷ ys) none all = (subst (λ t. t < m) (sym (get_or-set_other ts s y n 0 (not_first s y ys none))) all.0, under_fresh m ys (none_behind s y ys none) all.1)

  after_fresh : (m : ℕ) (slots : List ℕ) → times s slots ≡ 0 → AllAfter ts m slots → AllAfter (set ts s n) m slots
  after_fresh m [] none all = tt
  after_fresh m (y ∷ ys) none all = (subst (λ t. m < t) (sym (get_or-set_other ts s y n 0 (not_first s y ys none))) all.0, after_fresh m ys (none_behind s y ys none) all.1)

under_more : (ts : List ℕ) (n m : ℕ) (slots : List ℕ) → n ≤ m → AllUnder ts n slots → AllUnder ts m slots
under_more ts n m [] l all = tt
under_more ts n m (y ∷ ys) l all = ((let a = all.0 in omega (arith, a, l)), under_more ts n m ys l all.1)

under_push : (ts : List ℕ) (n s : ℕ) (slots : List ℕ) → AllUnder ts n slots → time_of ts s < n → AllUnder ts n (slots ++ s ∷ [])
under_push ts n s [] all l = (l, tt)
under_push ts n s (y ∷ ys) all l = (all.0, under_push ts n s ys all.1 l)

after_push : (ts : List ℕ) (n s : ℕ) (slots : List ℕ) → AllAfter ts n slots → n < time_of ts s → AllAfter ts n (slots ++ s ∷ [])
after_push ts n s [] all l = (l, tt)
after_push ts n s (y ∷ ys) all l = (all.0, after_push ts n s ys all.1 l)

-- one comes behind all others
module _ (ts : List ℕ) (s n : ℕ) (l : s < length ts) where
  at_it : time_of (set ts s n) s ≡ n
  at_it = get_or-set_same ts s n 0 l

  pub under_comes : (slots : List ℕ) → times s slots ≡ 0 → AllUnder ts n slots → AllUnder (set ts s n) (n + 1) (slots ++ s ∷ [])
  under_comes slots none under =
      under_push (set ts s n) (n + 1) s slots (under_more (set ts s n) n (n + 1) slots (omega arith) (under_fresh ts s n n slots none under)) (let a = at_it in omega (arith, a))

  pub up_comes : (slots : List ℕ) → times s slots ≡ 0 → AllUnder ts n slots → IsUp ts slots → IsUp (set ts s n) (slots ++ s ∷ [])
  up_comes [] none under up = (tt, tt)
  up_comes (y ∷ ys) none under up =
      let same = get_or-set_other ts s y n 0 (not_first s y ys none) in
      let rest = none_behind s y ys none in (
        after_push (set ts s n) (time_of (set ts s n) y) s ys
            (subst (λ m. AllAfter (set ts s n) m ys) (sym same) (after_fresh ts s n (time_of ts y) ys rest up.0))
            (let a = at_it in let b = under.0 in omega (arith, a, b, same)),
        up_comes ys rest under.1 up.1,
      )

-- one goes
module _ (ts : List ℕ) (s : ℕ) where
  pub under_goes : (n : ℕ) (slots : List ℕ) → AllUnder ts n slots → AllUnder ts n (without s slots)
  under_goes n [] all = tt
  under_goes n (y ∷ ys) all = ⊎_elim
      (λ same. subst (AllUnder ts n) (sym (without_same s y ys same)) (under_goes n ys all.1))
      (λ other. subst (AllUnder ts n) (sym (without_other s y ys other)) (all.0, under_goes n ys all.1))
      (cases_eq y s)

  after_goes : (n : ℕ) (slots : List ℕ) → AllAfter ts n slots → AllAfter ts n (without s slots)
  after_goes n [] all = tt
  after_goes n (y ∷ ys) all = ⊎_elim
      (λ same. subst (AllAfter ts n) (sym (without_same s y ys same)) (after_goes n ys all.1))
      (λ other. subst (AllAfter ts n) (sym (without_other s y ys other)) (all.0, after_goes n ys all.1))
      (cases_eq y s)

  pub up_goes : (slots : List ℕ) → IsUp ts slots → IsUp ts (without s slots)
  up_goes [] up = tt
  up_goes (y ∷ ys) up = ⊎_elim
      (λ same. subst (IsUp ts) (sym (without_same s y ys same)) (up_goes ys up.1))
      (λ other. subst (IsUp ts) (sym (without_other s y ys other)) (after_goes (time_of ts y) ys up.0, up_goes ys up.1))
      (cases_eq y s)

-- ---- all are numbered anew

pub record IsNumbering (order ts : List ℕ) (next long : ℕ) (at_it : Option ℕ) : Type 0 where
  pub front : List ℕ
  pub back : List ℕ
  pub parts : order ≡ front ++ back
  pub first : at_it ≡ first_of back
  pub up : IsUp ts front
  pub under : AllUnder ts next front
  pub count : length front ≡ next
  pub size : length ts ≡ long

pub begins : (order ts : List ℕ) (long : ℕ) (o : Option ℕ) → o ≡ first_of order → length ts ≡ long → IsNumbering order ts 0 long o
begins order ts long o first size = record { front = []; back = order; parts = refl; first = first; up = tt; under = tt; count = refl; size = size }

pub record Next (order front : List ℕ) (s : ℕ) (back : List ℕ) : Type 0 where
  pub rest : List ℕ
  pub parts : order ≡ front ++ s ∷ rest

next_of : (order front back : List ℕ) (s : ℕ) → order ≡ front ++ back → Some s ≡ first_of back → Next order front s back
next_of order front [] s parts first = absurd (cc)
next_of order front (y ∷ ys) s parts first = let same : s ≡ y = cc in record { rest = ys; parts = parts ∙ ap (λ n. front ++ n ∷ ys) (sym same) }

module _ (order ts : List ℕ) (next long s : ℕ) (is : IsNumbering order ts next long (Some s)) (once : (t : ℕ) → times t order ≤ 1) where
  pub p : Next order is.front s is.back
  p = next_of order is.front is.back s is.parts is.first

  pub there : 1 ≤ times s order
  there = let a = ap (times s) p.parts in let b = times_append s is.front (s ∷ p.rest) in let c = times_same s s p.rest refl in omega (arith, a, b, c)

  alone : times s is.front ≡ 0
  alone = let a = ap (times s) p.parts in let b = times_append s is.front (s ∷ p.rest) in let c = times_same s s p.rest refl in let o = once s in omega (arith, a, b, c, o)

  pub more : next < length order
  more = let a = ap length p.parts in let b = length-append is.front (s ∷ p.rest) in let c = is.count in omega (arith, a, b, c)

  pub goes_on : (o : Option ℕ) → o ≡ first_of p.rest → s < long → IsNumbering order (set ts s next) (next + 1) long o
  goes_on o first l = record {
    front = is.front ++ s ∷ [];
    back = p.rest;
    parts = p.parts ∙ append_one is.front p.rest s;
    first = first;
    up = up_comes ts s next (let a = is.size in omega (arith, a, l)) is.front alone is.under is.up;
    under = under_comes ts s next (let a = is.size in omega (arith, a, l)) is.front alone is.under;
    count = let a = length-append is.front (s ∷ []) in let b = is.count in omega (arith, a, b);
    size = length-set ts s next ∙ is.size;
  }

none_left : (back : List ℕ) → None ≡ first_of back → back ≡ []
none_left [] first = refl
none_left (y ∷ ys) first = absurd (cc)

pub record Numbered (order ts : List ℕ) (next : ℕ) : Type 0 where
  pub up : IsUp ts order
  pub under : AllUnder ts next order
  pub count : length order ≡ next

pub ends : (order ts : List ℕ) (next long : ℕ) → IsNumbering order ts next long None → Numbered order ts next
ends order ts next long is =
    let all : is.front ≡ order = sym (append-nil is.front) ∙ ap (λ r. is.front ++ r) (sym (none_left is.back is.first)) ∙ sym is.parts in
    record { up = subst (IsUp ts) all is.up; under = subst (AllUnder ts next) all is.under; count = ap length (sym all) ∙ is.count }

-- ---- where a slot stands, by what is known of all lists

module _ (log : Listed Standing) (known : AreApart (linked_in log)) (k t : ℕ) where
  pub once_at : times t (slots_at log k) ≤ 1
  once_at = ⊎_elim
      (λ there.
      let a = times_any t k log.lists in
      let some : 1 ≤ times t log.free + times_in t log.lists = omega (arith, a, there) in
      let one = known.once t (known.some t some) (known.within t some) in omega (arith, a, one))
      (λ none. omega (arith, none))
      (cases_lt 0 (times t (slots_at log k)))

  pub within_at : 1 ≤ times t (slots_at log k) → t ≤ log.room
  within_at there = let a = times_any t k log.lists in known.within t (omega (arith, a, there))

  pub some_at : 1 ≤ times t (slots_at log k) → 1 ≤ t
  some_at there = let a = times_any t k log.lists in known.some t (omega (arith, a, there))

pub few_at : (log : Listed Standing) → AreApart (linked_in log) → (k : ℕ) → length (slots_at log k) ≤ log.room
few_at log known k = let a = length_any k log.lists in let b = known.all in omega (arith, a, b)
