-- No event has two commands, and tickets don't come to more than the commands that entered.
use Rattle.std.proofs.Common.{◌≡◌, ℕ, ◌+◌, ◌<◌, ◌≤◌, ◌==◌, ◌||◌, cond, Bool, true, false, List, [], ◌∷◌, filter_map, length, count_by, Option, Some, None, refl, ap, sym, ◌∙◌, ⊎_elim, arith, eq-eqb, ne_eqb, length-append}
use Rattle.std.proofs.lemmas.Bool.{cases_lt, cond_both, eqb-true, false≢true}
use Rattle.std.proofs.lemmas.List.Sums.{sum_by-append}
use Rattle.iscsi_rules.specs.rules.Settings.{Setting}
use Rattle.iscsi_rules.specs.rules.Trace.{Command, Mark, Trace, after_items, contains, entered, enters}
use Rattle.iscsi_rules.proofs.general.CountLemmas.{count-cons, one}
use Rattle.iscsi_rules.proofs.general.ElementLemmas.{In}
use Rattle.iscsi_rules.proofs.items.Forms.{Completed, Each, EntersAs, Executed, Form, HasForm, HaveForms, Ignored, IsFormed, Postponed, Received, Rejected, is_arrival}
use Rattle.iscsi_rules.proofs.promises.LifeLemmas.{beyond_entered}
use Rattle.iscsi_rules.proofs.promises.NumberingLemmas.{to_list}
use Rattle.iscsi_rules.proofs.promises.ReplyTurns.{awaited, awaited_form, begins_of, executes_of}
use Rattle.iscsi_rules.proofs.items.TouchLemmas.{entering_in, enters_form}
use Rattle.iscsi_outbox_law.specs.private.Pairs.{EachOf}
use Rattle.iscsi_ffi_law.proofs.general.Members.{in_any}

-- ---- the commands of an event

abbrev arrived_in : ℕ → Command → Bool
arrived_in v d = d.arrival.event == v

abbrev commands_of : ℕ → Trace → ℕ
commands_of v t = count_by (arrived_in v) (entered t)

commands_item : (v : ℕ) (item : List Mark) (t : Trace) → commands_of v (item ∷ t) ≡ commands_of v t + count_by (arrived_in v) (filter_map enters item)
commands_item v item t = sum_by-append (λ (c : Command). cond (arrived_in v c) 1 0) (entered t) (filter_map enters item)

-- one that enters is of the request that executes
few_enter : (o : Setting) (now v : ℕ) (t : Trace) (form : Form) → IsFormed o now t form → count_by (arrived_in v) (to_list (entering_in form)) ≤ executes_of v form
few_enter o now v t (Ignored why) x = omega arith
few_enter o now v t (Rejected a) x = omega arith
few_enter o now v t (Received a) x = omega arith
few_enter o now v t (Postponed a) x = omega arith
few_enter o now v t (Completed c status) x = omega arith
few_enter o now v t (Executed start a d) x = by_entering d.entering x.1.enters
  where
    by_entering : (y : Option Command) → Each (EntersAs o t a d) y → count_by (arrived_in v) (to_list y) ≤ one (a.event == v)
    by_entering None e = omega arith
    by_entering (Some c) e = let same : one (c.arrival.event == v) ≡ one (a.event == v) = ap (λ (z : Command). one (z.arrival.event == v)) e.next in omega (arith, same, count-cons (arrived_in v) c [])

goes_on : (o : Setting) (now v : ℕ) (item : List Mark) (t : Trace) (f : HasForm o now t item) → commands_of v (item ∷ t) + awaited v (item ∷ t) ≤ commands_of v t + awaited v t + begins_of now v f.form
goes_on o now v item t f =
    let more = commands_item v item t in
    let entering = ap (count_by (arrived_in v)) (ap (filter_map enters) f.is ∙ enters_form f.form) in
    let few = few_enter o now v t f.form f.formed in
    let waits = awaited_form o now v t f.form f.formed in
    let same = ap (λ i. awaited v (i ∷ t)) f.is in
    omega (arith, more, entering, few, waits, same)

begins_here : (now v : ℕ) (form : Form) → now < v → begins_of now v form ≡ 0
begins_here now v form lt =
    cond_both (is_arrival form) (one (now == v)) 0 (λ (n : ℕ). n ≡ 0) (λ is. ap one (ne_eqb now v (λ same. omega (arith, same, lt)))) (λ is. refl)

before_now : (v : Bool) (now : ℕ) → cond v now (now + 1) ≤ now + 1
before_now true now = omega arith
before_now false now = omega arith

-- what an event has of something, where only the first item of its arrival adds to it, and one at the most
module _ (o : Setting) (M : ℕ → Trace → ℕ) (none : (v : ℕ) → M v [] ≡ 0) (goes : (now v : ℕ) (item : List Mark) (t : Trace) (f : HasForm o now t item) → M v (item ∷ t) ≤ M v t + begins_of now v f.form) where
  -- none is of an event that is to come
  pub none_later : (v : ℕ) (t : Trace) (next : ℕ) → HaveForms o next t → next ≤ v → M v t ≡ 0
  none_later v [] next forms le = none v
  none_later v (item ∷ t) next forms le =
      let f : HasForm o forms.0 t item = forms.1.1.0 in
      let early = forms.1.0 in
      let up = before_now (is_arrival f.form) forms.0 in
      let rest = none_later v t _ forms.1.1.1 (omega (arith, up, early, le)) in
      let on = goes forms.0 v item t f in
      let begins = begins_here forms.0 v f.form (omega (arith, early, le)) in
      omega (arith, rest, on, begins)

  pub one_most : (v : ℕ) (t : Trace) (next : ℕ) → HaveForms o next t → M v t ≤ 1
  one_most v [] next forms = let zero_is = none v in omega (arith, zero_is)
  one_most v (item ∷ t) next forms =
      let f : HasForm o forms.0 t item = forms.1.1.0 in
      by_test (is_arrival f.form) (goes forms.0 v item t f) (one_most v t _ forms.1.1.1) (λ le. none_later v t _ forms.1.1.1 le)
    where
      by_test : (b : Bool) → M v (item ∷ t) ≤ M v t + cond b (one (forms.0 == v)) 0 → M v t ≤ 1 → (cond b forms.0 (forms.0 + 1) ≤ v → M v t ≡ 0) → M v (item ∷ t) ≤ 1
      by_test false on few zeros = omega (arith, on, few)
      by_test true on few zeros = by_event (forms.0 == v) refl
        where
          by_event : (w : Bool) → (forms.0 == v) ≡ w → M v (item ∷ t) ≤ 1
          by_event true is = let same = eqb-true forms.0 v is in let here : one (forms.0 == v) ≡ 1 = ap one is in let zero_is = zeros (omega (arith, same)) in omega (arith, zero_is, here, on)
          by_event false is = let here : one (forms.0 == v) ≡ 0 = ap one is in omega (arith, here, on, few)

one_command : (o : Setting) (v : ℕ) (t : Trace) (next : ℕ) → HaveForms o next t → commands_of v t + awaited v t ≤ 1
one_command o v t next forms = one_most o (λ u x. commands_of u x + awaited u x) (λ u. refl) (goes_on o) v t next forms

none_counted : (v : ℕ) (cs : List Command) → count_by (arrived_in v) cs ≤ 0 → EachOf (λ (d : Command). (d.arrival.event == v) ≡ false) cs
none_counted v [] few = tt
none_counted v (c ∷ cs) few =
    let here : one (c.arrival.event == v) ≤ 0 = omega (arith, few, count-cons (arrived_in v) c cs) in
    (apart (c.arrival.event == v) here, none_counted v cs (omega (arith, few, count-cons (arrived_in v) c cs)))
  where
    apart : (w : Bool) → one w ≤ 0 → w ≡ false
    apart true le = absurd (let z : ⊥ = omega (arith, le) in z)
    apart false le = refl

-- no command that came before is of the same event as the one that enters
pub unarrived : (o : Setting) (item : List Mark) (t : Trace) (next : ℕ) → HaveForms o next (item ∷ t) → (c : Command) → filter_map enters item ≡ c ∷ [] → EachOf (λ (d : Command). (d.arrival.event == c.arrival.event) ≡ false) (entered t)
unarrived o item t next forms c is =
    let v : ℕ = c.arrival.event in
    let few = one_command o v (item ∷ t) next forms in
    let more = commands_item v item t in
    let this = ap (count_by (arrived_in v)) is in
    let here : one (c.arrival.event == v) ≡ 1 = ap one (eq-eqb c.arrival.event v refl) in
    none_counted v (entered t) (omega (arith, few, more, this, here, count-cons (arrived_in v) c []))

-- ---- tickets

pub ticket_low : (o : Setting) (t : Trace) (next : ℕ) → HaveForms o next t → (c : Command) → In c (entered t) → c.ticket ≤ length (entered t)
ticket_low o t next forms c at =
    ⊎_elim
    (λ beyond. absurd (false≢true (sym (beyond_entered o t next forms c.ticket beyond) ∙ in_any (λ (d : Command). d.ticket == c.ticket) (entered t) c at (eq-eqb c.ticket c.ticket refl))))
    (λ le. omega (arith, le)) (cases_lt (length (entered t)) c.ticket)

-- all are of commands that entered
abbrev pub AreTickets : Trace → List ℕ → Type 0
AreTickets t ks = EachOf (λ (k : ℕ). k ≤ length (entered t)) ks

pub none_beyond : (m k : ℕ) (ks : List ℕ) → m < k → EachOf (λ (j : ℕ). j ≤ m) ks → contains ks k ≡ false
none_beyond m k [] lt each = refl
none_beyond m k (j ∷ ks) lt each =
    let le = each.0 in
    ap (λ v. v || contains ks k) (ne_eqb j k (λ same. omega (arith, same, le, lt))) ∙ none_beyond m k ks lt each.1

pub entered_more : (item : List Mark) (t : Trace) → length (entered t) ≤ length (entered (item ∷ t))
entered_more item t = omega (arith, length-append (entered t) (filter_map enters item))

pub entered_after : (items : List (List Mark)) (t : Trace) → length (entered t) ≤ length (entered (after_items items t))
entered_after [] t = omega arith
entered_after (item ∷ items) t = omega (arith, entered_more item t, entered_after items (item ∷ t))
