-- Values by ticket, as one enters and as one is taken out.
use Rattle.std.proofs.Common.{◌≡◌, ◌≢◌, ℕ, suc, ◌+◌, ◌<◌, ◌≤◌, ◌==◌, not, cond, Bool, true, false, List, [], ◌∷◌, ◌++◌, length, find, get_or, All, Some, None, option_map, refl, ap, sym, ◌∙◌, arith, ⊎_elim, eq-eqb, ne_eqb}
use Rattle.std.specs.List.{AllPairs}
use Rattle.std.proofs.lemmas.Bool.{cases_Bool, eqb-true}
use Rattle.iscsi_tickets.specs.Tickets.{value_of, without_ticket}

abbrev pub Pair : Type 0
Pair = ℕ × ℕ

abbrev pub of_ticket : ℕ → Pair → Bool
of_ticket ticket e = e.0 == ticket

pub same_some : (n m : ℕ) → Some n ≡ Some m → n ≡ m
same_some n m e = cc

-- ---- a value by its ticket

pub value_first : (ticket : ℕ) (e : Pair) (entries : List Pair) → of_ticket ticket e ≡ true → value_of ticket (e ∷ entries) ≡ Some e.1
value_first ticket e entries is = ap (λ b. option_map (λ (x : Pair). x.1) (cond b (Some e) (find (of_ticket ticket) entries))) is

pub value_later : (ticket : ℕ) (e : Pair) (entries : List Pair) → of_ticket ticket e ≡ false → value_of ticket (e ∷ entries) ≡ value_of ticket entries
value_later ticket e entries is = ap (λ b. option_map (λ (x : Pair). x.1) (cond b (Some e) (find (of_ticket ticket) entries))) is

-- another one's stays
pub value_without : (ticket other : ℕ) (entries : List Pair) → other ≢ ticket → value_of other (without_ticket ticket entries) ≡ value_of other entries
value_without ticket other [] apart = refl
value_without ticket other (e ∷ entries) apart =
    let rest = value_without ticket other entries apart in
    elim (of_ticket ticket e) as (λ b. of_ticket ticket e ≡ b → value_of other (cond (not b) (e ∷ without_ticket ticket entries) (without_ticket ticket entries)) ≡ value_of other (e ∷ entries)) [
      | true ↦ λ is. rest ∙ sym (value_later other e entries (ne_eqb e.0 other (λ same. apart (sym same ∙ eqb-true e.0 ticket is))))
      | false ↦ λ is. ⊎_elim
          (λ here. value_first other e (without_ticket ticket entries) here ∙ sym (value_first other e entries here))
          (λ later. value_later other e (without_ticket ticket entries) later ∙ rest ∙ sym (value_later other e entries later))
          (cases_Bool (of_ticket other e))
    ] refl

pub value_push_other : (ticket place other : ℕ) (entries : List Pair) (value : ℕ) → value_of other entries ≡ Some value → value_of other (entries ++ (ticket, place) ∷ []) ≡ Some value
value_push_other ticket place other [] value is = absurd (let no : None ≡ Some value = is in cc)
value_push_other ticket place other (e ∷ entries) value is = ⊎_elim
    (λ here. value_first other e (entries ++ (ticket, place) ∷ []) here ∙ sym (value_first other e entries here) ∙ is)
    (λ later.
    value_later other e (entries ++ (ticket, place) ∷ []) later
    ∙ value_push_other ticket place other entries value (sym (value_later other e entries later) ∙ is))
    (cases_Bool (of_ticket other e))

pub value_push_here : (ticket place : ℕ) (entries : List Pair) → ((k : ℕ) (d : Pair) → k < length entries → (get_or entries k d).0 < ticket) → value_of ticket (entries ++ (ticket, place) ∷ []) ≡ Some place
value_push_here ticket place [] below = value_first ticket (ticket, place) [] (eq-eqb ticket ticket refl)
value_push_here ticket place (e ∷ entries) below =
    let first : e.0 < ticket = below 0 e (omega arith) in
    value_later ticket e (entries ++ (ticket, place) ∷ []) (ne_eqb e.0 ticket (λ same. omega (arith, first, same)))
    ∙ value_push_here ticket place entries (λ k d l. below (suc k) d (omega (arith, l)))

-- ---- one is taken out

pub none_with : (ticket : ℕ) (entries : List Pair) → ((k : ℕ) (d : Pair) → k < length entries → (get_or entries k d).0 ≢ ticket) → without_ticket ticket entries ≡ entries
none_with ticket [] none = refl
none_with ticket (e ∷ entries) none =
    ap (λ b. cond (not b) (e ∷ without_ticket ticket entries) (without_ticket ticket entries)) (ne_eqb e.0 ticket (none 0 e (omega arith)))
    ∙ ap (λ es. e ∷ es) (none_with ticket entries (λ k d l. none (suc k) d (omega (arith, l))))

pub one_fewer : (ticket place : ℕ) (entries : List Pair) → AllPairs (λ (a b : Pair). a.0 < b.0) entries → value_of ticket entries ≡ Some place → length (without_ticket ticket entries) + 1 ≡ length entries
one_fewer ticket place [] up is = absurd (let no : None ≡ Some place = is in cc)
one_fewer ticket place (e ∷ entries) up is =
    elim (of_ticket ticket e) as (λ b. of_ticket ticket e ≡ b → length (cond (not b) (e ∷ without_ticket ticket entries) (without_ticket ticket entries)) + 1 ≡ length (e ∷ entries)) [
      | true ↦ λ here.
          let same : e.0 ≡ ticket = eqb-true e.0 ticket here in
          let all = ap length (none_with ticket entries (λ k d l is_one.
          let later : e.0 < (get_or entries k d).0 = up 0 (suc k) d (omega arith) (omega (arith, l)) in omega (arith, later, same, is_one))) in
          omega (arith, all)
      | false ↦ λ later.
          let rest = one_fewer ticket place entries (λ i j d lt l. up (suc i) (suc j) d (omega (arith, lt)) (omega (arith, l))) (sym (value_later ticket e entries later) ∙ is) in
          omega (arith, rest)
    ] refl

-- a ticket that isn't there takes nothing
pub without_none : (ticket : ℕ) (entries : List Pair) → value_of ticket entries ≡ None → without_ticket ticket entries ≡ entries
without_none ticket [] none = refl
without_none ticket (e ∷ entries) none = ⊎_elim
    (λ here. absurd (let no : Some e.1 ≡ None = sym (value_first ticket e entries here) ∙ none in cc))
    (λ later.
    ap (λ b. cond (not b) (e ∷ without_ticket ticket entries) (without_ticket ticket entries)) later
    ∙ ap (λ es. e ∷ es) (without_none ticket entries (sym (value_later ticket e entries later) ∙ none)))
    (cases_Bool (of_ticket ticket e))

-- no ticket is above the last one
pub value_bound : (ticket value last : ℕ) (entries : List Pair) → All (λ (e : Pair). e.0 ≤ last) entries → value_of ticket entries ≡ Some value → ticket ≤ last
value_bound ticket value last [] below is = absurd (let no : None ≡ Some value = is in cc)
value_bound ticket value last (e ∷ entries) below is = ⊎_elim
    (λ here. let a = eqb-true e.0 ticket here in let b : e.0 ≤ last = below 0 e (omega arith) in omega (arith, a, b))
    (λ later. value_bound ticket value last entries (λ k d l. below (suc k) d (omega (arith, l))) (sym (value_later ticket e entries later) ∙ is))
    (cases_Bool (of_ticket ticket e))
