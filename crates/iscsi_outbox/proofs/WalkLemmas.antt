-- The items of an event, one after the other.
use Rattle.std.proofs.Common.{◌≡◌, ◌<◌, ◌≤◌, ℕ, ◌+◌, ◌-◌, ◌∙◌, true, false, List, [], ◌∷◌, ◌++◌, length, take, drop, get_or, slice_range, refl, sym, ap, arith, append_assoc, append-nil, if◌then◌else◌, length-drop}
use Rattle.std.proofs.Math.ListN.{drop_of_length-le}
use Rattle.std.proofs.lemmas.List.{drop_more, get_or-drop, take_more}
use Rattle.iscsi_rules.specs.declared.effect.Effect.{Effect}
use Rattle.iscsi_rules.specs.promises.Order.{in_parts, is_request, onto_first}
use Rattle.iscsi_outbox_steps.specs.State.{State}
use Rattle.iscsi_outbox_steps.specs.Steps.{after_item, after_items}
use Rattle.iscsi_outbox.specs.private.Walks.{before_parts}

-- ---- ranges

pub range_more : {A : Type 0} (xs : List A) (from i : ℕ) (d : A) → from ≤ i → i < length xs → slice_range xs from (i + 1) ≡ slice_range xs from i ++ get_or xs i d ∷ []
range_more xs from i d low high =
    let long = length-drop from xs in
    let there : i - from < length (drop from xs) = omega (arith, low, high, long) in
    let one : i + 1 - from ≡ i - from + 1 = omega (arith, low) in
    let at : from + (i - from) ≡ i = omega (arith, low) in
    ap (λ n. take n (drop from xs)) one
    ∙ take_more (drop from xs) (i - from) d there
    ∙ ap (λ x. slice_range xs from i ++ x ∷ []) (get_or-drop from xs (i - from) d ∙ ap (λ n. get_or xs n d) at)

range_none : {A : Type 0} (xs : List A) (i : ℕ) → slice_range xs i i ≡ []
range_none xs i = let none : i - i ≡ 0 = omega arith in ap (λ n. take n (drop i xs)) none

range_one : {A : Type 0} (xs : List A) (i : ℕ) (d : A) → i < length xs → slice_range xs i (i + 1) ≡ get_or xs i d ∷ []
range_one xs i d l = range_more xs i i d (omega arith) l ∙ ap (λ r. r ++ get_or xs i d ∷ []) (range_none xs i)

-- ---- parts

onto_all : (e : Effect) (part : List Effect) (parts : List (List Effect)) → before_parts part (onto_first e parts) ≡ before_parts (part ++ e ∷ []) parts
onto_all e part [] = refl
onto_all e part (first ∷ rest) = ap (λ r. r ∷ rest) (sym (append_assoc part (e ∷ []) first))

onto_none : (e : Effect) (parts : List (List Effect)) → before_parts [] (onto_first e parts) ≡ onto_first e parts
onto_none e [] = refl
onto_none e (first ∷ rest) = refl

none_before : (es : List Effect) → before_parts [] (in_parts es) ≡ in_parts es
none_before [] = refl
none_before (e ∷ es) = elim (is_request e) as (λ b. before_parts [] (if b then [] ∷ onto_first e (in_parts es) else onto_first e (in_parts es)) ≡ (if b then [] ∷ onto_first e (in_parts es) else onto_first e (in_parts es))) [
  | true ↦ refl
  | false ↦ onto_none e (in_parts es)
]

parts_at : (es : List Effect) (at : ℕ) (d : Effect) (part : List Effect) → at < length es → before_parts part (in_parts (drop at es)) ≡ before_parts part (in_parts (get_or es at d ∷ drop (at + 1) es))
parts_at es at d part l = ap (λ xs. before_parts part (in_parts xs)) (drop_more es at d l)

-- an effect that begins no item comes to the one that is walked over
pub goes_on : (es : List Effect) (from at : ℕ) (d : Effect) (s : State) → from ≤ at → at < length es → is_request (get_or es at d) ≡ false
    → after_items (before_parts (slice_range es from (at + 1)) (in_parts (drop (at + 1) es))) s ≡ after_items (before_parts (slice_range es from at) (in_parts (drop at es))) s
goes_on es from at d s low high none =
    let e = get_or es at d in
    let rest = in_parts (drop (at + 1) es) in
    ap (λ ps. after_items ps s) (sym (
    parts_at es at d (slice_range es from at) high
    ∙ ap (λ b. before_parts (slice_range es from at) (if b then [] ∷ onto_first e rest else onto_first e rest)) none
    ∙ onto_all e (slice_range es from at) rest
    ∙ ap (λ part. before_parts part rest) (sym (range_more es from at d low high))
    ))

-- one that begins an item ends the one before
pub begins : (es : List Effect) (from at : ℕ) (d : Effect) (s : State) → at < length es → is_request (get_or es at d) ≡ true
    → after_items (before_parts (slice_range es at (at + 1)) (in_parts (drop (at + 1) es))) (after_item (slice_range es from at) s) ≡ after_items (before_parts (slice_range es from at) (in_parts (drop at es))) s
begins es from at d s high some =
    let e = get_or es at d in
    let rest = in_parts (drop (at + 1) es) in
    let part = slice_range es from at in
    ap (λ p. after_items (before_parts p rest) (after_item part s)) (range_one es at d high)
    ∙ ap (λ ps. after_items ps (after_item part s)) (sym (onto_all e [] rest) ∙ onto_none e rest)
    ∙ ap (λ p. after_items (onto_first e rest) (after_item p s)) (sym (append-nil part))
    ∙ sym (ap (λ ps. after_items ps s) (
    parts_at es at d part high
    ∙ ap (λ b. before_parts part (if b then [] ∷ onto_first e rest else onto_first e rest)) some
    ))

pub all_walked : (es : List Effect) (from at : ℕ) (s : State) → length es ≤ at → after_items (before_parts (slice_range es from at) (in_parts (drop at es))) s ≡ after_item (slice_range es from at) s
all_walked es from at s l =
    ap (λ xs. after_items (before_parts (slice_range es from at) (in_parts xs)) s) (drop_of_length-le es l)
    ∙ ap (λ p. after_item p s) (append-nil (slice_range es from at))

pub none_walked : (es : List Effect) (s : State) → after_items (before_parts (slice_range es 0 0) (in_parts (drop 0 es))) s ≡ after_items (in_parts es) s
none_walked es s = ap (λ ps. after_items ps s) (none_before es)
