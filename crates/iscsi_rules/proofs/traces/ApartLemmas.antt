-- Commands with tickets of their own.
use Rattle.std.proofs.Common.{◌≡◌, ℕ, ◌+◌, ◌==◌, ◌&&◌, ◌||◌, not, ⊎_elim, cond, Bool, true, false, List, [], ◌∷◌, ◌++◌, filter, count_by, Some, refl, ap, sym, ◌∙◌, arith, eq-eqb}
use Rattle.std.proofs.lemmas.Bool.{cases_eq, eqb-true}
use Rattle.std.proofs.lemmas.Bool.Decides.{nat_tests}
use Rattle.std.specs.List.{list_all}
use Rattle.std.proofs.lemmas.List.Folds.{list_any-append}
use Rattle.std.proofs.lemmas.List.Sums.{sum_by-cons}
use Rattle.iscsi_rules.specs.rules.Trace.{Command, is_among, first_of, are_apart}
use Rattle.iscsi_rules.proofs.general.ListLemmas.{none_out}
use Rattle.iscsi_rules.proofs.general.BoolLemmas.{and_parts, or_none, not_true}

pub eq_sym : (a b : ℕ) → (a == b) ≡ (b == a)
eq_sym a b = ⊎_elim (λ same. eq-eqb a b same ∙ sym (eq-eqb b a (sym same))) (λ apart. (let x : (a == b) ≡ false = grind (arith, nat_tests) in x) ∙ (let y : (b == a) ≡ false = grind (arith, nat_tests) in sym y)) (cases_eq a b)

unamong-push : (k : ℕ) (cs : List Command) (c : Command) → is_among k cs ≡ false → (c.ticket == k) ≡ false → is_among k (cs ++ c ∷ []) ≡ false
unamong-push k cs c h apart = list_any-append (λ (d : Command). d.ticket == k) cs (c ∷ []) ∙ ap (λ b. b || ((c.ticket == k) || false)) h ∙ ap (λ b. b || false) apart

pub apart-push : (cs : List Command) (c : Command) → are_apart cs ≡ true → is_among c.ticket cs ≡ false → are_apart (cs ++ c ∷ []) ≡ true
apart-push [] c apart new = refl
apart-push (d ∷ cs) c apart new = grind (arith, apart-push cs c, unamong-push)

pub unamong-filter : (p : Command → Bool) (k : ℕ) (cs : List Command) → is_among k cs ≡ false → is_among k (filter p cs) ≡ false
unamong-filter p k [] h = refl
unamong-filter p k (c ∷ cs) h = grind (arith, unamong-filter p k cs)

pub apart-filter : (p : Command → Bool) (cs : List Command) → are_apart cs ≡ true → are_apart (filter p cs) ≡ true
apart-filter p [] h = refl
apart-filter p (c ∷ cs) h = grind (arith, apart-filter p cs, unamong-filter)

-- how many pass, without the command of a ticket
pub count-without : (p : Command → Bool) (k : ℕ) (cs : List Command) (c : Command) → are_apart cs ≡ true → first_of (filter (λ d. d.ticket == k) cs) ≡ Some c
    → count_by p (filter (λ d. not (d.ticket == k)) cs) + cond (p c) 1 0 ≡ count_by p cs
count-without p k [] c apart found = absurd cc
count-without p k (x ∷ cs) c apart found =
    let parts = and_parts (not (is_among x.ticket cs)) (are_apart cs) apart in
    let away : List Command = filter (λ d. not (d.ticket == k)) cs in
    let all : count_by p (x ∷ cs) ≡ cond (p x) 1 0 + count_by p cs = sum_by-cons (λ d. cond (p d) 1 0) x cs in
    elim (x.ticket == k) as (λ b. (x.ticket == k) ≡ b → first_of (cond b (x ∷ filter (λ d. d.ticket == k) cs) (filter (λ d. d.ticket == k) cs)) ≡ Some c
    → count_by p (cond (not b) (x ∷ away) away) + cond (p c) 1 0 ≡ count_by p (x ∷ cs)) [
      | true ↦ λ is here.
          let same : x ≡ c = cc in
          let gone : is_among k cs ≡ false = ap (λ n. is_among n cs) (sym (eqb-true x.ticket k is)) ∙ not_true (is_among x.ticket cs) parts.0 in
          omega (arith, all, ap (count_by p) (none_out (λ (d : Command). d.ticket == k) cs gone), ap {B = ℕ} (λ (d : Command). cond (p d) 1 0) same)
      | false ↦ λ is later. omega (arith, all, sum_by-cons (λ d. cond (p d) 1 0) x away, count-without p k cs c parts.1 later)
    ] refl found

-- the command of a ticket is in one unit alone
pub one_unit : (k : ℕ) (cs : List Command) (c : Command) → are_apart cs ≡ true → first_of (filter (λ d. d.ticket == k) cs) ≡ Some c → list_all (λ d. not (d.ticket == k) || (d.unit == c.unit)) cs ≡ true
one_unit k [] c apart found = refl
one_unit k (x ∷ cs) c apart found =
    let parts = and_parts (not (is_among x.ticket cs)) (are_apart cs) apart in
    let rest : Bool = list_all (λ (d : Command). not (d.ticket == k) || (d.unit == c.unit)) cs in
    elim (x.ticket == k) as (λ b. (x.ticket == k) ≡ b → first_of (cond b (x ∷ filter (λ d. d.ticket == k) cs) (filter (λ d. d.ticket == k) cs)) ≡ Some c → ((not b || (x.unit == c.unit)) && rest) ≡ true) [
      | true ↦ λ is here.
          let same : x ≡ c = cc in
          let gone : is_among k cs ≡ false = ap (λ n. is_among n cs) (sym (eqb-true x.ticket k is)) ∙ not_true (is_among x.ticket cs) parts.0 in
          ap (λ b. b && rest) (eq-eqb x.unit c.unit (ap (λ (d : Command). d.unit) same)) ∙ none k cs gone
      | false ↦ λ is later. one_unit k cs c parts.1 later
    ] refl found
  where
    none : (k : ℕ) (cs : List Command) → is_among k cs ≡ false → list_all (λ (d : Command). not (d.ticket == k) || (d.unit == c.unit)) cs ≡ true
    none k [] h = refl
    none k (x ∷ cs) h = grind (arith, nat_tests, none k cs, or_none (x.ticket == k) (is_among k cs) h)
