-- A request's place, where there is none left; and its word, which stays.
use Rattle.std.proofs.Common.{◌≡◌, ℕ, List, [], ◌∷◌, length, Option, Some, None, refl, sym, ap, arith}
use Rattle.iscsi_lists.specs.Lists.{last_of}
use Rattle.iscsi_requests.specs.Cookies.{AreKnown, Cookies, next_place}
use Rattle.iscsi_ffi_steps.specs.Walk.{Doing}
use Rattle.iscsi_ffi_steps.specs.Steps.{enter_request}
use Rattle.iscsi_ffi_desk.specs.Calls.{entered_request}

empty : (xs : List ℕ) → length xs ≡ 0 → last_of xs ≡ None
empty [] e = refl
empty (x ∷ xs) e = absurd (omega (arith, e))

-- all places are taken
pub no_place : (v : Cookies) → AreKnown v → length v.requests ≡ v.room → next_place v ≡ None
no_place v k full = empty v.free (omega (arith, k.counted, full))

pub none_enters : (cookie : ℕ) (d : Doing) → next_place d.state.cookies ≡ None → d ≡ entered_request cookie d
none_enters cookie d e = sym (ap (λ (o : Option ℕ). elim o as (λ (q : Option ℕ). Doing) [ Some place ↦ enter_request cookie place d | None ↦ d ]) e)
