-- The last request that executes among effects, and the last entry of a log.
use Rattle.std.proofs.Common.{◌≡◌, ◌∙◌, ◌<◌, ◌≤◌, ◌-◌, ℕ, suc, arith, refl, ap, List, [], ◌∷◌, ◌++◌, take, length, slice_index_or, Option, Some, None}
use Rattle.std.proofs.Math.Seq.{take-suc}
use Rattle.std.specs.List.{cons_option, filter_map, last_or}
use Rattle.std.proofs.lemmas.List.Elements.{filter_map-append}
use Rattle.iscsi_wire.specs.declared.request.Request.{Request}
use Rattle.iscsi_rules.specs.declared.effect.Effect.{Effect}
use Rattle.iscsi_rules.specs.declared.entry.Entry.{Entry}
use Rattle.iscsi_host.specs.Plain.{executing, last_executing}
use Rattle.iscsi_host.specs.Serving.{last_effects}

last_or-append : {A : Type 0} (o : Option A) (xs ys : List A) → last_or o (xs ++ ys) ≡ last_or (last_or o xs) ys
last_or-append o [] ys = refl
last_or-append o (x ∷ xs) ys = last_or-append (Some x) xs ys

-- of the requests of one effect
abbrev one : Option Request → Option Request → Option Request
one last (Some r) = Some r
one last None = last

one-is : (last found : Option Request) → last_or last (cons_option found []) ≡ one last found
one-is last (Some r) = refl
one-is last None = refl

-- with one effect more
last_executing-push : (es : List Effect) (e : Effect) → last_executing (es ++ e ∷ []) ≡ one (last_executing es) (executing e)
last_executing-push es e = ap (last_or None) (filter_map-append executing es (e ∷ [])) ∙ last_or-append None (filter_map executing es) (filter_map executing (e ∷ [])) ∙ one-is (last_executing es) (executing e)

last_is : (es : List Effect) (e : Effect) (r : Request) → executing e ≡ Some r → last_executing (es ++ e ∷ []) ≡ Some r
last_is es e r is = last_executing-push es e ∙ ap (one (last_executing es)) is

last_before : (es : List Effect) (e : Effect) → executing e ≡ None → last_executing (es ++ e ∷ []) ≡ last_executing es
last_before es e is = last_executing-push es e ∙ ap (one (last_executing es)) is

-- the effects of a log with one entry more
pub last_effects-push : (log : List Entry) (entry : Entry) → last_effects (log ++ entry ∷ []) ≡ entry.effects
last_effects-push [] entry = refl
last_effects-push (first ∷ []) entry = refl
last_effects-push (first ∷ next ∷ log) entry = last_effects-push (next ∷ log) entry

-- the effects up to a place, and the one before it
one_back : (es : List Effect) (before : ℕ) (d : Effect) → 0 < before → before ≤ length es → take before es ≡ take (before - 1) es ++ slice_index_or es (before - 1) d ∷ []
one_back es before d some within =
    let back : before ≡ suc (before - 1) = omega (arith, some) in
    let there : before - 1 < length es = omega (arith, some, within) in
    ap (λ n. take n es) back ∙ take-suc es (before - 1) d there

pub found_back : (es : List Effect) (before : ℕ) (r : Request) (d : Effect) → 0 < before → before ≤ length es → executing (slice_index_or es (before - 1) d) ≡ Some r → last_executing (take before es) ≡ Some r
found_back es before r d some within is = ap last_executing (one_back es before d some within) ∙ last_is (take (before - 1) es) (slice_index_or es (before - 1) d) r is

pub passed_back : (es : List Effect) (before : ℕ) (d : Effect) → 0 < before → before ≤ length es → executing (slice_index_or es (before - 1) d) ≡ None → last_executing (take before es) ≡ last_executing (take (before - 1) es)
passed_back es before d some within is = ap last_executing (one_back es before d some within) ∙ last_before (take (before - 1) es) (slice_index_or es (before - 1) d) is
