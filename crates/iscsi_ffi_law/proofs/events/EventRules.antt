-- What the rules make of an event, by its items: the side behind it, what is reset, and what is enabled.
use Rattle.std.proofs.Common.{◌≡◌, ℕ, ◌≤◌, ◌&&◌, ◌||◌, cond, Bool, true, false, List, [], ◌∷◌, ◌++◌, length, filter_map, Option, Some, None, refl, ap, sym, ◌∙◌, arith, append_assoc, length-append}
use Rattle.std.specs.List.{flat_map, list_all, list_any}
use Rattle.std.proofs.lemmas.Bool.{false≢true, or_right}
use Rattle.std.proofs.lemmas.List.{append-nil, map-append}
use Rattle.std.proofs.lemmas.List.Elements.{filter_map-append}
use Rattle.iscsi_wire.specs.declared.reply.Reply.{Reply}
use Rattle.iscsi_wire.specs.declared.request.Request.{Request}
use Rattle.iscsi_wire.specs.Fields.{function}
use Rattle.iscsi_rules.specs.rules.Execution.{unit_named}
use Rattle.iscsi_rules.specs.rules.Run.{effects_of, effects_of_item, effects_of_mark, newly_enabled}
use Rattle.iscsi_rules.specs.rules.Settings.{Setting}
use Rattle.iscsi_rules.specs.rules.Trace.{Admits, Arrival, ClosesConn, ClosesSession, Command, Delivers, Empties, Enters, Executes, Ignores, Leaves, Mark, Sends, Trace, Voids, Waits, after_items, entered, enters, is_free_at, was_free}
use Rattle.iscsi_rules.specs.promises.Replies.{executed_in, reply_sent as mark_reply}
use Rattle.iscsi_rules.proofs.general.BoolLemmas.{and_parts}
use Rattle.iscsi_rules.proofs.general.ElementLemmas.{In, append-in_first}
use Rattle.iscsi_outbox_rules.specs.rules.Calls.{Opening}
use Rattle.iscsi_outbox_rules.specs.rules.Items.{after_items as box_after_items, executing, reply_sent, ticket_enabled}
use Rattle.iscsi_outbox_rules.proofs.closes.ClosedItems.{send_of, sent_item}
use Rattle.iscsi_outbox_rules.proofs.closes.ClosedParts.{effects_each}
use Rattle.iscsi_ffi_rules.specs.declared.action.Action.{Action}
use Rattle.iscsi_ffi_rules.specs.declared.action.Action.TheVariants.{Reset}
use Rattle.iscsi_ffi_rules.specs.rules.Calls.{Interface}
use Rattle.iscsi_ffi_rules.specs.rules.Happening.{answers_in, is_complete, is_reset, reset, resets_in as resets_there}
use Rattle.iscsi_ffi_rules.specs.rules.Sides.{Side}
use Rattle.iscsi_ffi_steps.specs.Steps.{reset_in}
use Rattle.iscsi_ffi_law.specs.Arrived.{side_behind}
use Rattle.iscsi_ffi_law.proofs.completions.DoneShape.{enabled_tickets, enables, tickets_of}
use Rattle.iscsi_ffi_law.proofs.items.ItemsGo.{side_after}
use Rattle.iscsi_ffi_law.proofs.general.Members.{in_any}

pub none_of : {A : Type 0} (p : A → Bool) (xs : List A) → list_any p xs ≡ false → (x : A) → In x xs → p x ≡ false
none_of p xs none x there = by_test (p x) refl
  where
    by_test : (v : Bool) → p x ≡ v → v ≡ false
    by_test false is = refl
    by_test true is = absurd (false≢true (sym none ∙ in_any p xs x there is))

-- ---- the side

-- the side behind these items, all at once
pub side_is : (i : Interface) (r : Side) (items : List (List Mark)) → side_after i r items ≡ record r {
  both = record r.both { trace = after_items items r.both.trace; box = box_after_items i.outbox r.both.box (effects_each i.outbox.session r.both.trace items) };
  answers = r.answers ++ flat_map (answers_in r.both.event) items;
}
side_is i r [] = ap (λ as'. record r { answers = as' }) (sym (append-nil r.answers))
side_is i r (item ∷ items) =
    side_is i (side_behind i r item) items
    ∙ ap (λ as'. record r { both = record r.both { trace = after_items items (item ∷ r.both.trace); box = box_after_items i.outbox (side_behind i r item).both.box (effects_each i.outbox.session (item ∷ r.both.trace) items) }; answers = as' })
    (append_assoc r.answers (answers_in r.both.event item) (flat_map (answers_in r.both.event) items))

-- ---- what is enabled

abbrev pub news_of : Setting → Trace → List (List Mark) → List Command
news_of o t [] = []
news_of o t (item ∷ items) = newly_enabled o t item ++ news_of o (item ∷ t) items

none_enabled : (o : Setting) (t : Trace) (ms : List Mark) → filter_map ticket_enabled (flat_map (effects_of_mark o t) ms) ≡ []
none_enabled o t [] = refl
none_enabled o t (Admits a ∷ ms) = none_enabled o t ms
none_enabled o t (Delivers a ∷ ms) = none_enabled o t ms
none_enabled o t (Executes a ∷ ms) = none_enabled o t ms
none_enabled o t (Voids n ∷ ms) = none_enabled o t ms
none_enabled o t (Empties a ∷ ms) = none_enabled o t ms
none_enabled o t (Waits a ∷ ms) = none_enabled o t ms
none_enabled o t (Leaves c ∷ ms) = none_enabled o t ms
none_enabled o t (Enters c ∷ ms) = none_enabled o t ms
none_enabled o t (Sends conn reply ∷ ms) = none_enabled o t ms
none_enabled o t (ClosesConn conn ∷ ms) = none_enabled o t ms
none_enabled o t (ClosesSession ∷ ms) = none_enabled o t ms
none_enabled o t (Ignores why ∷ ms) = none_enabled o t ms

pub item_enabled : (o : Setting) (t : Trace) (item : List Mark) → filter_map ticket_enabled (effects_of_item o t item) ≡ tickets_of (newly_enabled o t item)
item_enabled o t item =
    filter_map-append ticket_enabled (flat_map (effects_of_mark o t) item) (enables (newly_enabled o t item))
    ∙ ap (λ ks. ks ++ filter_map ticket_enabled (enables (newly_enabled o t item))) (none_enabled o t item) ∙ enabled_tickets (newly_enabled o t item)

pub all_enabled : (o : Setting) (t : Trace) (items : List (List Mark)) → filter_map ticket_enabled (effects_of o t items) ≡ tickets_of (news_of o t items)
all_enabled o t [] = refl
all_enabled o t (item ∷ items) =
    filter_map-append ticket_enabled (effects_of_item o t item) (effects_of o (item ∷ t) items)
    ∙ ap (λ ks. ks ++ filter_map ticket_enabled (effects_of o (item ∷ t) items)) (item_enabled o t item)
    ∙ ap (λ ks. tickets_of (newly_enabled o t item) ++ ks) (all_enabled o (item ∷ t) items)
    ∙ sym (map-append (λ (c : Command). c.ticket) (newly_enabled o t item) (news_of o (item ∷ t) items))

-- what entered, and what was free, did so still
pub entered_later : (items : List (List Mark)) (t : Trace) (c : Command) → In c (entered t) → In c (entered (after_items items t))
entered_later [] t c there = there
entered_later (item ∷ items) t c there = entered_later items (item ∷ t) c (append-in_first (entered t) (filter_map enters item) c there)

pub free_later : (items : List (List Mark)) (t : Trace) (c : Command) → was_free c t ≡ true → was_free c (after_items items t) ≡ true
free_later [] t c free = free
free_later (item ∷ items) t c free = free_later items (item ∷ t) c (or_right (is_free_at c (item ∷ t)) (was_free c t) free)

-- ---- what is reset

complete_same : (ms : List Mark) → list_any (λ (sent : ℕ × Reply). is_complete sent.1) (filter_map send_of ms) ≡ list_any is_complete (filter_map mark_reply ms)
complete_same [] = refl
complete_same (Admits a ∷ ms) = complete_same ms
complete_same (Delivers a ∷ ms) = complete_same ms
complete_same (Executes a ∷ ms) = complete_same ms
complete_same (Voids n ∷ ms) = complete_same ms
complete_same (Empties a ∷ ms) = complete_same ms
complete_same (Waits a ∷ ms) = complete_same ms
complete_same (Leaves c ∷ ms) = complete_same ms
complete_same (Enters c ∷ ms) = complete_same ms
complete_same (Sends conn reply ∷ ms) = ap (λ v. is_complete reply || v) (complete_same ms)
complete_same (ClosesConn conn ∷ ms) = complete_same ms
complete_same (ClosesSession ∷ ms) = complete_same ms
complete_same (Ignores why ∷ ms) = complete_same ms

enables_idle : (ns : List Command) → executing (enables ns) ≡ None
enables_idle [] = refl
enables_idle (n ∷ ns) = refl

-- an item that admits does nothing else
abbrev pub admits_alone : List Mark → Bool
admits_alone (Admits a ∷ []) = true
admits_alone (Admits a ∷ (m ∷ ms)) = false
admits_alone _ = true

idle_by : (o : Setting) (t : Trace) (item : List Mark) → admits_alone item ≡ true → executed_in item ≡ None → executing (effects_of_item o t item) ≡ None
idle_by o t [] alone none = enables_idle (newly_enabled o t [])
idle_by o t (Admits a ∷ []) alone none = enables_idle (newly_enabled o t (Admits a ∷ []))
idle_by o t (Admits a ∷ (m ∷ ms)) alone none = absurd (false≢true alone)
idle_by o t (Delivers a ∷ ms) alone none = absurd (let no : ⊥ = cc in no)
idle_by o t (Executes a ∷ ms) alone none = absurd (let no : ⊥ = cc in no)
idle_by o t (Voids n ∷ ms) alone none = refl
idle_by o t (Empties a ∷ ms) alone none = refl
idle_by o t (Waits a ∷ ms) alone none = refl
idle_by o t (Leaves c ∷ ms) alone none = refl
idle_by o t (Enters c ∷ ms) alone none = refl
idle_by o t (Sends conn reply ∷ ms) alone none = refl
idle_by o t (ClosesConn conn ∷ ms) alone none = refl
idle_by o t (ClosesSession ∷ ms) alone none = refl
idle_by o t (Ignores why ∷ ms) alone none = refl

-- what executes by the rules is what the effects show
executing_as : (o : Setting) (t : Trace) (item : List Mark) (a : Arrival) → executed_in item ≡ Some a → executing (effects_of_item o t item) ≡ Some (a.request)
executing_as o t [] a is = absurd (let no : ⊥ = cc in no)
executing_as o t (Delivers b ∷ ms) a is = let same : b ≡ a = cc in ap (λ (x : Arrival). Some (x.request)) same
executing_as o t (Executes b ∷ ms) a is = let same : b ≡ a = cc in ap (λ (x : Arrival). Some (x.request)) same
executing_as o t (Admits b ∷ ms) a is = absurd (let no : ⊥ = cc in no)
executing_as o t (Voids n ∷ ms) a is = absurd (let no : ⊥ = cc in no)
executing_as o t (Empties b ∷ ms) a is = absurd (let no : ⊥ = cc in no)
executing_as o t (Waits b ∷ ms) a is = absurd (let no : ⊥ = cc in no)
executing_as o t (Leaves c ∷ ms) a is = absurd (let no : ⊥ = cc in no)
executing_as o t (Enters c ∷ ms) a is = absurd (let no : ⊥ = cc in no)
executing_as o t (Sends conn reply ∷ ms) a is = absurd (let no : ⊥ = cc in no)
executing_as o t (ClosesConn conn ∷ ms) a is = absurd (let no : ⊥ = cc in no)
executing_as o t (ClosesSession ∷ ms) a is = absurd (let no : ⊥ = cc in no)
executing_as o t (Ignores why ∷ ms) a is = absurd (let no : ⊥ = cc in no)

pub item_resets : (o : Opening) (t : Trace) (item : List Mark) → admits_alone item ≡ true → cond o.shared (reset_in o.session.units (effects_of_item o.session t item)) [] ≡ resets_there o item
item_resets o t item alone = by_executed (executed_in item) refl
  where
    by_shared : (v w x : Bool) (as' : List Action) → cond v (cond (w && x) as' []) [] ≡ cond (v && w && x) as' []
    by_shared true true true as' = refl
    by_shared true true false as' = refl
    by_shared true false x as' = refl
    by_shared false true true as' = refl
    by_shared false true false as' = refl
    by_shared false false x as' = refl

    none_at_all : (v : Bool) → cond {A = List Action} v [] [] ≡ []
    none_at_all true = refl
    none_at_all false = refl

    by_executed : (x : Option Arrival) → executed_in item ≡ x → cond o.shared (reset_in o.session.units (effects_of_item o.session t item)) [] ≡ resets_there o item
    by_executed None is =
        ap (λ (z : Option Request). cond o.shared (elim z [ Some r ↦ cond (is_reset r && list_any (λ (sent : ℕ × Reply). is_complete sent.1) (filter_map reply_sent (effects_of_item o.session t item))) (reset o.session.units r) [] | None ↦ [] ]) []) (idle_by o.session t item alone is)
        ∙ none_at_all o.shared
        ∙ sym (ap (λ (z : Option Arrival). elim z as (λ (y : Option Arrival). List Action) [ Some a ↦ cond (o.shared && is_reset a.request && list_any is_complete (filter_map mark_reply item)) (reset o.session.units a.request) [] | None ↦ [] ]) is)
    by_executed (Some a) is =
        ap (λ (z : Option Request). cond o.shared (elim z [ Some r ↦ cond (is_reset r && list_any (λ (sent : ℕ × Reply). is_complete sent.1) (filter_map reply_sent (effects_of_item o.session t item))) (reset o.session.units r) [] | None ↦ [] ]) []) (executing_as o.session t item a is)
        ∙ ap (λ (xs : List (ℕ × Reply)). cond o.shared (cond (is_reset a.request && list_any (λ (sent : ℕ × Reply). is_complete sent.1) xs) (reset o.session.units a.request) []) []) (sent_item o.session t item)
        ∙ ap (λ v. cond o.shared (cond (is_reset a.request && v) (reset o.session.units a.request) []) []) (complete_same item)
        ∙ by_shared o.shared (is_reset a.request) (list_any is_complete (filter_map mark_reply item)) (reset o.session.units a.request)
        ∙ sym (ap (λ (z : Option Arrival). elim z as (λ (y : Option Arrival). List Action) [ Some b ↦ cond (o.shared && is_reset b.request && list_any is_complete (filter_map mark_reply item)) (reset o.session.units b.request) [] | None ↦ [] ]) is)

pub all_resets : (o : Opening) (t : Trace) (items : List (List Mark)) → list_all admits_alone items ≡ true → cond o.shared (flat_map (reset_in o.session.units) (effects_each o.session t items)) [] ≡ flat_map (resets_there o) items
all_resets o t [] alone = by_test o.shared
  where
    by_test : (v : Bool) → cond {A = List Action} v [] [] ≡ []
    by_test true = refl
    by_test false = refl
all_resets o t (item ∷ items) alone =
    let parts = and_parts (admits_alone item) (list_all admits_alone items) alone in
    split o.shared (reset_in o.session.units (effects_of_item o.session t item)) (flat_map (reset_in o.session.units) (effects_each o.session (item ∷ t) items))
    ∙ ap (λ xs. xs ++ cond o.shared (flat_map (reset_in o.session.units) (effects_each o.session (item ∷ t) items)) []) (item_resets o t item parts.0)
    ∙ ap (λ xs. resets_there o item ++ xs) (all_resets o (item ∷ t) items parts.1)
  where
    split : (v : Bool) (xs ys : List Action) → cond v (xs ++ ys) [] ≡ cond v xs [] ++ cond v ys []
    split true xs ys = refl
    split false xs ys = refl

few_named : (units : ℕ) (r : Request) → length (reset units r) ≤ 1
few_named units r = by_unit (unit_named units r)
  where
    by_unit : (x : Option ℕ) → length (elim x as (λ (y : Option ℕ). List Action) [ Some unit ↦ Reset unit (function r) ∷ [] | None ↦ [] ]) ≤ 1
    by_unit None = omega arith
    by_unit (Some unit) = omega arith

few_reset : (o : Opening) (item : List Mark) → length (resets_there o item) ≤ 1
few_reset o item = by_executed (executed_in item)
  where
    by_test : (a : Arrival) (v : Bool) → length (cond v (reset o.session.units a.request) []) ≤ 1
    by_test a true = few_named o.session.units a.request
    by_test a false = omega arith

    by_executed : (x : Option Arrival) → length (elim x as (λ (y : Option Arrival). List Action) [ Some a ↦ cond (o.shared && is_reset a.request && list_any is_complete (filter_map mark_reply item)) (reset o.session.units a.request) [] | None ↦ [] ]) ≤ 1
    by_executed None = omega arith
    by_executed (Some a) = by_test a (o.shared && is_reset a.request && list_any is_complete (filter_map mark_reply item))

pub few_resets : (o : Opening) (items : List (List Mark)) → length (flat_map (resets_there o) items) ≤ length items
few_resets o [] = omega arith
few_resets o (item ∷ items) = let rest = few_resets o items in let here = few_reset o item in omega (arith, rest, here, length-append (resets_there o item) (flat_map (resets_there o) items))
