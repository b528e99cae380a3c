-- What holds of a command that is found.
use Rattle.std.proofs.Common.{◌≡◌, ◌<◌, ◌≤◌, ℕ, suc, ◌==◌, ◌||◌, cond, Bool, true, false, List, [], ◌∷◌, ◌++◌, length, find, get_or, Some, None, refl, sym, ap, subst, ◌∙◌, arith, eq-eqb, ne_eqb, if◌then◌else◌}
use Rattle.std.specs.List.{All, list_any}
use Rattle.iscsi_lists.specs.Lists.{last_of}
use Rattle.iscsi_tracked.specs.declared.command.Command.{Command}
use Rattle.iscsi_tracked.specs.declared.command.Entering.{Entering}
use Rattle.iscsi_tracked.specs.declared.command.Phase.{Phase}
use Rattle.iscsi_tracked.specs.Tracked.{AreKnown, IsTrailed, Tracked, arrived, as_command, entered, find_place, find_ticket, has_place, in_phase, is_at, next_place, to_phase, with_command, with_out}

pub found_all : {A : Type 0} (test : A → Bool) (P : A → Type 0) (xs : List A) (x : A) → All P xs → find test xs ≡ Some x → P x
found_all test P [] x all e = cc
found_all test P (y ∷ ys) x all e =
    elim (test y) as (λ b. cond b (Some y) (find test ys) ≡ Some x → P x) [
      | true ↦ λ e'. let same : y ≡ x = cc in subst P same (all 0 y (omega arith))
      | false ↦ λ e'. found_all test P ys x (λ k d l. all (suc k) d (omega (arith, l))) e'
    ] e

pub found_passes : {A : Type 0} (test : A → Bool) (xs : List A) (x : A) → find test xs ≡ Some x → test x ≡ true
found_passes test [] x e = cc
found_passes test (y ∷ ys) x e =
    elim (test y) as (λ b. test y ≡ b → cond b (Some y) (find test ys) ≡ Some x → test x ≡ true) [
      | true ↦ λ is e'. let same : y ≡ x = cc in subst (λ z. test z ≡ true) same is
      | false ↦ λ is e'. found_passes test ys x e'
    ] refl e

pub found_there : {A : Type 0} (test : A → Bool) (xs : List A) (x : A) → find test xs ≡ Some x → list_any test xs ≡ true
found_there test [] x e = cc
found_there test (y ∷ ys) x e =
    elim (test y) as (λ b. cond b (Some y) (find test ys) ≡ Some x → (b || list_any test ys) ≡ true) [
      | true ↦ λ e'. refl
      | false ↦ λ e'. found_there test ys x e'
    ] e

any_later : {A : Type 0} (q : A → Bool) (y : A) (ys : List A) → list_any q ys ≡ true → (q y || list_any q ys) ≡ true
any_later q y ys e = elim (q y) as (λ b. (b || list_any q ys) ≡ true) [ true ↦ refl | false ↦ e ]

none_last : (xs : List ℕ) → length xs ≡ 0 → last_of xs ≡ None
none_last [] e = refl
none_last (x ∷ xs) e = absurd (omega (arith, e))

-- ---- commands that are kept

pub conn_within : (v : Tracked) (ticket : ℕ) (c : Command) → AreKnown v → find_ticket ticket v ≡ Some c → c.conn < length v.trails
conn_within v ticket c k e = (found_all (λ (d : Command). d.ticket == ticket) (IsTrailed v) v.commands c k.trailed e).conn

pub place_low : (v : Tracked) (ticket : ℕ) (c : Command) → AreKnown v → find_ticket ticket v ≡ Some c → 1 ≤ c.place
place_low v ticket c k e = found_all (λ (d : Command). d.ticket == ticket) (λ (d : Command). 1 ≤ d.place) v.commands c k.low e

pub place_high : (v : Tracked) (ticket : ℕ) (c : Command) → AreKnown v → find_ticket ticket v ≡ Some c → c.place ≤ v.room
place_high v ticket c k e = found_all (λ (d : Command). d.ticket == ticket) (λ (d : Command). d.place ≤ v.room) v.commands c k.high e

pub has_found : (v : Tracked) (place : ℕ) (c : Command) → find_place place v ≡ Some c → c.place ≡ place → has_place c.place v ≡ true
has_found v place c e same = subst (λ n. has_place n v ≡ true) (sym same) (found_there (is_at place) v.commands c e)

-- a place stays taken as what is kept there changes
any_changed : (place at : ℕ) (change : Command → Command) (cs : List Command) → ((c : Command) → (change c).place ≡ c.place) → list_any (is_at place) (with_command change at cs) ≡ list_any (is_at place) cs
any_changed place at change [] same = refl
any_changed place at change (c ∷ cs) same =
    let rest = any_changed place at change cs same in
    elim (is_at at c) as (λ b. (is_at place (if b then change c else c) || list_any (is_at place) (with_command change at cs)) ≡ (is_at place c || list_any (is_at place) cs)) [
      | true ↦ ap (λ n. (n == place) || list_any (is_at place) (with_command change at cs)) (same c) ∙ ap (λ b. is_at place c || b) rest
      | false ↦ ap (λ b. is_at place c || b) rest
    ]

pub has_arrived : (v : Tracked) (place at : ℕ) → has_place place v ≡ true → has_place place (arrived at v) ≡ true
has_arrived v place at e = any_changed place at (with_out None) v.commands (λ (c : Command). refl) ∙ e

pub has_phase : (v : Tracked) (place at : ℕ) (phase : Phase) → has_place place v ≡ true → has_place place (in_phase phase at v) ≡ true
has_phase v place at phase e = any_changed place at (to_phase phase) v.commands (λ (c : Command). refl) ∙ e

pub found_has : {A : Type 0} (test q : A → Bool) (xs : List A) (x : A) → find test xs ≡ Some x → q x ≡ true → list_any q xs ≡ true
found_has test q [] x e is = cc
found_has test q (y ∷ ys) x e is =
    elim (test y) as (λ b. cond b (Some y) (find test ys) ≡ Some x → (q y || list_any q ys) ≡ true) [
      | true ↦ λ e'. let same : y ≡ x = cc in ap (λ b. b || list_any q ys) (ap q same ∙ is)
      | false ↦ λ e'. any_later q y ys (found_has test q ys x e' is)
    ] e

-- the place of a command that is found by its ticket is taken
pub ticket_has : (v : Tracked) (ticket : ℕ) (c : Command) → find_ticket ticket v ≡ Some c → has_place c.place v ≡ true
ticket_has v ticket c e = found_has (λ (d : Command). d.ticket == ticket) (is_at c.place) v.commands c e (eq-eqb c.place c.place refl)

-- where there is no room, there is no place
pub none_next : (v : Tracked) → AreKnown v → length v.commands ≡ v.room → next_place v ≡ None
none_next v k full = none_last v.free (omega (arith, k.counted, full))

-- ---- one has entered

find_last : {A : Type 0} (test : A → Bool) (xs : List A) (x : A) → All (λ y. test y ≡ false) xs → test x ≡ true → find test (xs ++ x ∷ []) ≡ Some x
find_last test [] x none is = ap (λ b. cond b (Some x) None) is
find_last test (y ∷ ys) x none is =
    ap (λ b. cond b (Some y) (find test (ys ++ x ∷ []))) (none 0 y (omega arith))
    ∙ find_last test ys x (λ k d l. none (suc k) d (omega (arith, l))) is

-- it is found by its ticket, which is above those before
pub newest_found : (v : Tracked) (e : Entering) (place : ℕ) → AreKnown v → v.last < e.ticket → find_ticket (e.ticket) (entered e place v) ≡ Some (as_command e place)
newest_found v e place k newer = find_last (λ (c : Command). c.ticket == e.ticket) v.commands (as_command e place)
    (λ i d l. let low : (get_or v.commands i d).ticket ≤ v.last = k.newest i d l in ne_eqb _ _ (λ same. omega (arith, low, newer, same)))
    (eq-eqb (e.ticket) (e.ticket) refl)
