-- What changes as uses end: the requests, their commands, and what is forgotten. All else has nothing to do with it.
use Rattle.std.proofs.Common.{◌≡◌, ℕ, ◌+◌, ◌==◌, ◌&&◌, ◌||◌, not, cond, Bool, true, false, List, [], ◌∷◌, ◌++◌, filter, Option, Some, None, is_some, refl, ap, sym, ◌∙◌, arith, ne_eqb, eq-eqb, nat_le, nat_lt}
use Rattle.std.specs.List.{list_any}
use Rattle.std.proofs.lemmas.Bool.{false≢true}
use Rattle.std.proofs.lemmas.List.Elements.{filter-append}
use Rattle.iscsi_rules.proofs.general.BoolLemmas.{or_none}
use Rattle.iscsi_rules.proofs.general.CountLemmas.{one}
use Rattle.iscsi_requests.specs.Cookies.{Cookies, has_place, last_cookie, used_less}
use Rattle.iscsi_ffi_commands.specs.declared.command.Command.{Command}
use Rattle.iscsi_ffi_commands.specs.Commands.{Commands, entered, forgotten, is_of, may_enter}
use Rattle.iscsi_ffi_rules.specs.declared.action.Action.{Action}
use Rattle.iscsi_ffi_steps.specs.Walk.{Doing, forget, release_if, release_one}
use Rattle.iscsi_ffi_law.proofs.requests.Releases.{endings, releases}
use Rattle.iscsi_ffi_law.proofs.requests.Releasing.{ending}

pub record Core : Type 0 where
  pub cookies : Cookies
  pub commands : Commands
  pub forgets : List Action

abbrev pub core_of : Doing → Core
core_of d = record { cookies = d.state.cookies; commands = d.state.commands; forgets = d.forgets }

abbrev pub with_core : Core → Doing → Doing
with_core k d = record { state = record d.state { cookies = k.cookies; commands = k.commands }; actions = d.actions; forgets = k.forgets }

abbrev pub release_one_core : ℕ → ℕ → Core → Core
release_one_core room request k = record {
  cookies = used_less request k.cookies;
  commands = cond (is_some (last_cookie request k.cookies)) (forgotten request k.commands) k.commands;
  forgets = forget room k.forgets (last_cookie request k.cookies);
}

abbrev pub release_core : ℕ → Option ℕ → Core → Core
release_core room (Some request) k = cond (has_place request k.cookies) (release_one_core room request k) k
release_core room None k = k

abbrev pub all_core : ℕ → List (Option ℕ) → Core → Core
all_core room [] k = k
all_core room (x ∷ xs) k = all_core room xs (release_core room x k)

released_core : (x : Option ℕ) (d : Doing) → release_if x d ≡ with_core (release_core d.state.room x (core_of d)) d
released_core None d = refl
released_core (Some q) d = by_test (has_place q d.state.cookies)
  where
    by_test : (v : Bool) → cond v (release_one q d) d ≡ with_core (cond v (release_one_core d.state.room q (core_of d)) (core_of d)) d
    by_test true = refl
    by_test false = refl

pub all_released_core : (xs : List (Option ℕ)) (d : Doing) → releases xs d ≡ with_core (all_core d.state.room xs (core_of d)) d
all_released_core [] d = refl
all_released_core (x ∷ xs) d = ap (releases xs) (released_core x d) ∙ all_released_core xs (with_core (release_core d.state.room x (core_of d)) d)

-- one more ends
pub core_more : (room : ℕ) (xs : List (Option ℕ)) (x : Option ℕ) (k : Core) → all_core room (xs ++ x ∷ []) k ≡ release_core room x (all_core room xs k)
core_more room [] x k = refl
core_more room (y ∷ xs) x k = core_more room xs x (release_core room y k)

pub endings_more : (xs : List (Option ℕ)) (x : Option ℕ) (p : ℕ) → endings (xs ++ x ∷ []) p ≡ endings xs p + ending x p
endings_more [] x p = omega arith
endings_more (y ∷ xs) x p = let rest = endings_more xs x p in omega (arith, rest)

pub one_released : (x : Option ℕ) (d : Doing) → release_if x d ≡ with_core (release_core d.state.room x (core_of d)) d
one_released x d = released_core x d

-- ---- a command that enters, of another request

module _ (room : ℕ) (c : Command) where
  abbrev pub with_command : Core → Core
  with_command k = record { cookies = k.cookies; commands = entered c k.commands; forgets = k.forgets }

  none_fewer : (p q : Command → Bool) (xs : List Command) → list_any p xs ≡ false → list_any p (filter q xs) ≡ false
  none_fewer p q [] none = refl
  none_fewer p q (x ∷ xs) none =
      let parts = or_none (p x) (list_any p xs) none in
      by_test (none_fewer p q xs parts.1) (q x) parts.0
    where
      by_test : list_any p (filter q xs) ≡ false → (v : Bool) → p x ≡ false → list_any p (cond v (x ∷ filter q xs) (filter q xs)) ≡ false
      by_test rest true first = ap (λ w. w || list_any p (filter q xs)) first ∙ rest
      by_test rest false first = rest

  chained : (u v w x y y' : Bool) → (y ≡ true → y' ≡ true) → (u && v && w && x && y) ≡ true → (u && v && w && x && y') ≡ true
  chained true true true true y y' still h = still h
  chained true true true false y y' still h = absurd (false≢true h)
  chained true true false x y y' still h = absurd (false≢true h)
  chained true false w x y y' still h = absurd (false≢true h)
  chained false v w x y y' still h = absurd (false≢true h)

  may_forgotten : (q : ℕ) (v : Commands) → may_enter c v ≡ true → may_enter c (forgotten q v) ≡ true
  may_forgotten q v may = chained (nat_lt v.last c.ticket) (nat_lt c.unit v.units) (nat_le 1 c.request) (nat_le c.request v.room) (not (list_any (is_of c.request) v.items)) (not (list_any (is_of c.request) (filter (λ (x : Command). not (is_of q x)) v.items)))
      (λ none. ap not (none_fewer (is_of c.request) (λ (x : Command). not (is_of q x)) v.items (unmarked (list_any (is_of c.request) v.items) none))) may
    where
      unmarked : (w : Bool) → not w ≡ true → w ≡ false
      unmarked false h = refl
      unmarked true h = absurd (false≢true h)

  may_released : (x : Option ℕ) (k : Core) → may_enter c k.commands ≡ true → may_enter c (release_core room x k).commands ≡ true
  may_released None k may = may
  may_released (Some q) k may = by_test (has_place q k.cookies) (is_some (last_cookie q k.cookies))
    where
      by_test : (v w : Bool) → may_enter c (cond v (record { cookies = used_less q k.cookies; commands = cond w (forgotten q k.commands) k.commands; forgets = forget room k.forgets (last_cookie q k.cookies) }) k).commands ≡ true
      by_test true true = may_forgotten q k.commands may
      by_test true false = may
      by_test false w = may

  pub may_all : (xs : List (Option ℕ)) (k : Core) → may_enter c k.commands ≡ true → may_enter c (all_core room xs k).commands ≡ true
  may_all [] k may = may
  may_all (x ∷ xs) k may = may_all xs (release_core room x k) (may_released x k may)

  forgotten_entered : (q : ℕ) (v : Commands) → (c.request == q) ≡ false → forgotten q (entered c v) ≡ entered c (forgotten q v)
  forgotten_entered q v other =
      ap (λ (xs : List Command). record v { items = xs; last = c.ticket })
      (filter-append (λ (x : Command). not (is_of q x)) v.items (c ∷ []) ∙ ap (λ w. filter (λ (x : Command). not (is_of q x)) v.items ++ cond (not w) (c ∷ []) []) other)

  entered_released : (x : Option ℕ) (k : Core) → ending x c.request ≡ 0 → release_core room x (with_command k) ≡ with_command (release_core room x k)
  entered_released None k other = refl
  entered_released (Some q) k other = by_test (has_place q k.cookies) (is_some (last_cookie q k.cookies))
    where
      isnt : (c.request == q) ≡ false
      isnt = ne_eqb c.request q (λ same. let here : one (q == c.request) ≡ 1 = ap one (eq-eqb q c.request (sym same)) in let none : ⊥ = omega (arith, here, other) in none)

      by_test : (v w : Bool)
          → cond v (record { cookies = used_less q k.cookies; commands = cond w (forgotten q (entered c k.commands)) (entered c k.commands); forgets = forget room k.forgets (last_cookie q k.cookies) }) (with_command k)
          ≡ with_command (cond v (record { cookies = used_less q k.cookies; commands = cond w (forgotten q k.commands) k.commands; forgets = forget room k.forgets (last_cookie q k.cookies) }) k)
      by_test true true = ap (λ (v : Commands). record { cookies = used_less q k.cookies; commands = v; forgets = forget room k.forgets (last_cookie q k.cookies) }) (forgotten_entered q k.commands isnt)
      by_test true false = refl
      by_test false w = refl

  pub entered_all : (xs : List (Option ℕ)) (k : Core) → endings xs c.request ≡ 0 → all_core room xs (with_command k) ≡ with_command (all_core room xs k)
  entered_all [] k none = refl
  entered_all (x ∷ xs) k none =
      ap (all_core room xs) (entered_released x k (omega (arith, none))) ∙ entered_all xs (release_core room x k) (omega (arith, none))
