-- The items of an event, and what each of them tells.
use Rattle.std.proofs.Common.{◌≡◌, ◌<◌, ◌≤◌, ℕ, ◌+◌, ◌-◌, ◌&&◌, ◌||◌, ◌∙◌, Bool, true, false, List, [], ◌∷◌, ◌++◌, length, take, drop, get_or, slice_range, filter_map, Option, Some, None, refl, sym, ap, arith, append_assoc, append-nil, if◌then◌else◌}
use Rattle.std.specs.List.{flat_map, list_any}
use Rattle.std.proofs.Math.ListN.{drop_of_length-le}
use Rattle.std.proofs.lemmas.List.{drop_more}
use Rattle.iscsi_wire.specs.declared.reply.Reply.{Reply}
use Rattle.iscsi_wire.specs.declared.request.Request.{Request}
use Rattle.iscsi_wire.specs.Fields.{function}
use Rattle.iscsi_rules.specs.declared.effect.Effect.{Effect}
use Rattle.iscsi_rules.specs.declared.effect.Effect.TheVariants.{Deliver, Immediate, Wait, Void, Empty, Enter, Enable, Leave, Send, CloseConn, CloseSession, Ignore}
use Rattle.iscsi_rules.specs.promises.Order.{in_parts, is_request, onto_first}
use Rattle.iscsi_rules.specs.rules.Execution.{unit_named}
use Rattle.iscsi_outbox_rules.specs.rules.Items.{executing, reply_sent}
use Rattle.iscsi_outbox.specs.private.Walks.{before_parts}
use Rattle.iscsi_outbox.proofs.WalkLemmas.{range_more}
use Rattle.iscsi_ffi_rules.specs.declared.action.Action.{Action}
use Rattle.iscsi_ffi_rules.specs.declared.action.Action.TheVariants.{Reset}
use Rattle.iscsi_ffi_rules.specs.rules.Happening.{is_complete, is_reset, reset}
use Rattle.iscsi_ffi_steps.specs.Steps.{reset_in}
use Rattle.iscsi_ffi_steps.specs.Walk.{Doing, tell, tell_all}
use Rattle.iscsi_ffi_desk.specs.Calls.{is_completing}

-- ---- parts

range_none : {A : Type 0} (xs : List A) (i : ℕ) → slice_range xs i i ≡ []
range_none xs i = let none : i - i ≡ 0 = omega arith in ap (λ n. take n (drop i xs)) none

range_one : {A : Type 0} (xs : List A) (i : ℕ) (d : A) → i < length xs → slice_range xs i (i + 1) ≡ get_or xs i d ∷ []
range_one xs i d l = range_more xs i i d (omega arith) l ∙ ap (λ r. r ++ get_or xs i d ∷ []) (range_none xs i)

onto_all : (e : Effect) (part : List Effect) (parts : List (List Effect)) → before_parts part (onto_first e parts) ≡ before_parts (part ++ e ∷ []) parts
onto_all e part [] = refl
onto_all e part (first ∷ rest) = ap (λ r. r ∷ rest) (sym (append_assoc part (e ∷ []) first))

none_before : (e : Effect) (parts : List (List Effect)) → before_parts [] (onto_first e parts) ≡ onto_first e parts
none_before e [] = refl
none_before e (first ∷ rest) = refl

parts_at : (es : List Effect) (at : ℕ) (d : Effect) → at < length es → in_parts (drop at es) ≡ in_parts (get_or es at d ∷ drop (at + 1) es)
parts_at es at d l = ap (λ xs. in_parts xs) (drop_more es at d l)

-- none is walked over yet
pub no_part : (es : List Effect) → before_parts (slice_range es 0 0) (in_parts es) ≡ in_parts es
no_part [] = refl
no_part (e ∷ es) = elim (is_request e) as (λ b. before_parts [] (if b then [] ∷ onto_first e (in_parts es) else onto_first e (in_parts es)) ≡ (if b then [] ∷ onto_first e (in_parts es) else onto_first e (in_parts es))) [
  | true ↦ refl
  | false ↦ none_before e (in_parts es)
]

-- an effect that begins no item comes to the one that is walked over
pub part_goes_on : (es : List Effect) (from at : ℕ) (d : Effect) → from ≤ at → at < length es → is_request (get_or es at d) ≡ false
    → before_parts (slice_range es from (at + 1)) (in_parts (drop (at + 1) es)) ≡ before_parts (slice_range es from at) (in_parts (drop at es))
part_goes_on es from at d low high none =
    let e = get_or es at d in
    let rest = in_parts (drop (at + 1) es) in
    let part = slice_range es from at in
    sym (
    ap (before_parts part) (parts_at es at d high)
    ∙ ap (λ b. before_parts part (if b then [] ∷ onto_first e rest else onto_first e rest)) none
    ∙ onto_all e part rest
    ∙ ap (λ p. before_parts p rest) (sym (range_more es from at d low high))
    )

-- one that begins an item ends the one before
pub part_ends : (es : List Effect) (from at : ℕ) (d : Effect) → at < length es → is_request (get_or es at d) ≡ true
    → before_parts (slice_range es from at) (in_parts (drop at es)) ≡ slice_range es from at ∷ before_parts (slice_range es at (at + 1)) (in_parts (drop (at + 1) es))
part_ends es from at d high some =
    let e = get_or es at d in
    let rest = in_parts (drop (at + 1) es) in
    let part = slice_range es from at in
    ap (before_parts part) (parts_at es at d high)
    ∙ ap (λ b. before_parts part (if b then [] ∷ onto_first e rest else onto_first e rest)) some
    ∙ ap (λ p. p ∷ onto_first e rest) (append-nil part)
    ∙ ap (λ ps. part ∷ ps) (sym (none_before e rest) ∙ onto_all e [] rest ∙ ap (λ p. before_parts p rest) (sym (range_one es at d high)))

pub last_part : (es : List Effect) (from at : ℕ) → length es ≤ at → before_parts (slice_range es from at) (in_parts (drop at es)) ≡ slice_range es from at ∷ []
last_part es from at l =
    ap (λ xs. before_parts (slice_range es from at) (in_parts xs)) (drop_of_length-le es l)
    ∙ ap (λ p. p ∷ []) (append-nil (slice_range es from at))

-- ---- what is told

pub told_state : (actions : List Action) (d : Doing) → (tell_all actions d).state ≡ d.state
told_state [] d = refl
told_state (action ∷ actions) d = told_state actions (tell action d)

pub told-append : (xs ys : List Action) (d : Doing) → tell_all (xs ++ ys) d ≡ tell_all ys (tell_all xs d)
told-append [] ys d = refl
told-append (x ∷ xs) ys d = told-append xs ys (tell x d)

-- ---- what an item tells

same_answer : (e : Effect) (b : Bool) (es : List Effect) → list_any (λ (sent : ℕ × Reply). is_complete sent.1) (filter_map reply_sent es) ≡ b
    → list_any (λ (sent : ℕ × Reply). is_complete sent.1) (filter_map reply_sent (e ∷ es)) ≡ (is_completing e || b)
same_answer (Send conn stat_sn reply) b es is = ap (λ v. is_complete reply || v) is
same_answer (Deliver r) b es is = is
same_answer (Immediate r) b es is = is
same_answer (Wait r) b es is = is
same_answer (Void sn) b es is = is
same_answer (Empty sn) b es is = is
same_answer (Enter ticket unit attr) b es is = is
same_answer (Enable ticket unit) b es is = is
same_answer (Leave ticket unit) b es is = is
same_answer (CloseConn conn) b es is = is
same_answer CloseSession b es is = is
same_answer (Ignore why) b es is = is

answers : (es : List Effect) → list_any (λ (sent : ℕ × Reply). is_complete sent.1) (filter_map reply_sent es) ≡ list_any is_completing es
answers [] = refl
answers (e ∷ es) = same_answer e (list_any is_completing es) es (answers es)

reset_told : (units : ℕ) (r : Request) (item : List Effect) → executing item ≡ Some r → reset_in units item ≡ (if is_reset r && list_any is_completing item then reset units r else [])
reset_told units r item some =
    ap (λ (o : Option Request). elim o as (λ (x : Option Request). List Action) [ Some q ↦ if is_reset q && list_any (λ (sent : ℕ × Reply). is_complete sent.1) (filter_map reply_sent item) then reset units q else [] | None ↦ [] ]) some
    ∙ ap (λ b. if is_reset r && b then reset units r else []) (answers item)

no_reset_told : (units : ℕ) (item : List Effect) → executing item ≡ None → reset_in units item ≡ []
no_reset_told units item none =
    ap (λ (o : Option Request). elim o as (λ (x : Option Request). List Action) [ Some q ↦ if is_reset q && list_any (λ (sent : ℕ × Reply). is_complete sent.1) (filter_map reply_sent item) then reset units q else [] | None ↦ [] ]) none

pub one_reset : (units unit : ℕ) (r : Request) (item : List Effect) (d : Doing) → executing item ≡ Some r → (is_reset r && list_any is_completing item) ≡ true → unit_named units r ≡ Some unit
    → tell_all (reset_in units item) d ≡ tell (Reset unit (function r)) d
one_reset units unit r item d some done named =
    ap (λ actions. tell_all actions d) (
    reset_told units r item some
    ∙ ap (λ b. if b then reset units r else []) done
    ∙ ap (λ (o : Option ℕ). elim o as (λ (x : Option ℕ). List Action) [ Some u ↦ Reset u (function r) ∷ [] | None ↦ [] ]) named
    )

pub no_unit_reset : (units : ℕ) (r : Request) (item : List Effect) (d : Doing) → executing item ≡ Some r → (is_reset r && list_any is_completing item) ≡ true → unit_named units r ≡ None
    → tell_all (reset_in units item) d ≡ d
no_unit_reset units r item d some done named =
    ap (λ actions. tell_all actions d) (
    reset_told units r item some
    ∙ ap (λ b. if b then reset units r else []) done
    ∙ ap (λ (o : Option ℕ). elim o as (λ (x : Option ℕ). List Action) [ Some u ↦ Reset u (function r) ∷ [] | None ↦ [] ]) named
    )

pub not_reset : (units : ℕ) (r : Request) (item : List Effect) (d : Doing) → executing item ≡ Some r → (is_reset r && list_any is_completing item) ≡ false → tell_all (reset_in units item) d ≡ d
not_reset units r item d some done = ap (λ actions. tell_all actions d) (reset_told units r item some ∙ ap (λ b. if b then reset units r else []) done)

pub none_executes : (units : ℕ) (item : List Effect) (d : Doing) → executing item ≡ None → tell_all (reset_in units item) d ≡ d
none_executes units item d none = ap (λ actions. tell_all actions d) (no_reset_told units item none)

-- ---- one item after the other

abbrev pub resets_left : ℕ → List Effect → ℕ → ℕ → List Action
resets_left units es from at = flat_map (reset_in units) (before_parts (slice_range es from at) (in_parts (drop at es)))

pub no_resets_yet : (units : ℕ) (es : List Effect) (d : Doing) → tell_all (resets_left units es 0 0) d ≡ tell_all (flat_map (reset_in units) (in_parts es)) d
no_resets_yet units es d = ap (λ parts. tell_all (flat_map (reset_in units) parts) d) (no_part es)

pub resets_go_on : (units : ℕ) (es : List Effect) (from at : ℕ) (e : Effect) (d : Doing) → from ≤ at → at < length es → is_request (get_or es at e) ≡ false
    → tell_all (resets_left units es from (at + 1)) d ≡ tell_all (resets_left units es from at) d
resets_go_on units es from at e d low high none = ap (λ parts. tell_all (flat_map (reset_in units) parts) d) (part_goes_on es from at e low high none)

pub resets_begin : (units : ℕ) (es : List Effect) (from at : ℕ) (e : Effect) (d : Doing) → at < length es → is_request (get_or es at e) ≡ true
    → tell_all (resets_left units es at (at + 1)) (tell_all (reset_in units (slice_range es from at)) d) ≡ tell_all (resets_left units es from at) d
resets_begin units es from at e d high some =
    sym (told-append (reset_in units (slice_range es from at)) (resets_left units es at (at + 1)) d)
    ∙ sym (ap (λ parts. tell_all (flat_map (reset_in units) parts) d) (part_ends es from at e high some))

pub resets_end : (units : ℕ) (es : List Effect) (from at : ℕ) (d : Doing) → length es ≤ at → tell_all (resets_left units es from at) d ≡ tell_all (reset_in units (slice_range es from at)) d
resets_end units es from at d past =
    ap (λ parts. tell_all (flat_map (reset_in units) parts) d) (last_part es from at past)
    ∙ ap (λ actions. tell_all actions d) (append-nil (reset_in units (slice_range es from at)))
