-- What a log shows of each ticket is a life.
use Rattle.std.proofs.Common.{◌≡◌, ℕ, ◌+◌, ◌<◌, ◌≤◌, ◌==◌, ◌||◌, ◌⊎◌, inl, inr, not, ⊎_elim, cond, Bool, true, false, List, [], ◌∷◌, ◌++◌, map, filter, length, count_by, Option, Some, None, refl, ap, sym, subst, ◌∙◌, arith, length-append}
use Rattle.std.specs.List.{list_any, filter_map, flat_map, range_with_len}
use Rattle.std.proofs.lemmas.Bool.{eqb-true}
use Rattle.std.proofs.lemmas.List.{append-nil, length-map, map-append}
use Rattle.std.proofs.lemmas.List.Elements.{filter-append, filter_map-append}
use Rattle.std.proofs.lemmas.List.Sums.{sum_by-cons}
use Rattle.std.proofs.lemmas.Bool.Decides.{nat_tests}
use Rattle.iscsi_rules.specs.declared.effect.Effect.{Effect}
use Rattle.iscsi_rules.specs.declared.event.Event.{Event}
use Rattle.iscsi_rules.specs.rules.Settings.{Setting}
use Rattle.iscsi_rules.specs.rules.Trace.{Command, Mark, Enters, Trace, has, enters, entered, leaves_ticket, live, was_free}
use Rattle.iscsi_rules.specs.rules.Run.{effects_of_mark, newly_enabled, effects_of_item, trace_of, run_of}
use Rattle.iscsi_rules.specs.promises.Enabling.{effects_so_far, effects_in}
use Rattle.iscsi_rules.specs.promises.Lives.{ticket_entered, tickets_entered, life_of, is_life, StartsOnce}
use Rattle.iscsi_rules.proofs.general.ElementLemmas.{In, in-filter}
use Rattle.iscsi_rules.proofs.general.ListLemmas.{filter-swap}
use Rattle.iscsi_rules.proofs.traces.TraceLemmas.{live-item}
use Rattle.iscsi_rules.proofs.traces.NewlyLemmas.{never_free}
use Rattle.iscsi_rules.proofs.promises.MomentLemmas.{log_effects}
use Rattle.iscsi_rules.proofs.items.Forms.{Form, marks_of_form, Each, IsFormed, HaveForms}
use Rattle.iscsi_rules.proofs.items.FormRuns.{trace_has_forms}
use Rattle.iscsi_rules.proofs.items.DeedLemmas.{to_list}
use Rattle.iscsi_rules.proofs.items.TouchLemmas.{mine, leave_effect, enter_effect, enable_effect, leaving_in, entering_in, enters_form, leaves_form, life_item, leaving_few, leaving_live, EntersNext, entering_next}
use Rattle.iscsi_rules.proofs.promises.LifeLemmas.{mine-none, among-mine, count-mine, tickets_count, beyond_entered, newly_none, newly_one}

-- ---- the state of a ticket

-- what is shown of a command that hasn't left: it entered, and may be enabled
abbrev going_on : Command → Bool → List Effect
going_on c free = enter_effect c ∷ cond free (enable_effect c ∷ []) []

-- it hasn't entered yet
record IsToCome (o : Setting) (t : Trace) (k : ℕ) : Type 0 where
  not_yet : (k ≡ 0) ⊎ (length (entered t) < k)
  unlive : mine k (live t) ≡ []
  unleft : has (leaves_ticket k) t ≡ false
  shown : life_of k (effects_so_far o t) ≡ []

-- it is live
record IsGoing (o : Setting) (t : Trace) (k : ℕ) : Type 0 where
  some : 1 ≤ k
  past : k ≤ length (entered t)
  command : Command
  live_one : mine k (live t) ≡ command ∷ []
  below : command.unit < o.units
  shown : life_of k (effects_so_far o t) ≡ going_on command (was_free command t)

-- it has left
record IsGone (o : Setting) (t : Trace) (k : ℕ) : Type 0 where
  some : 1 ≤ k
  past : k ≤ length (entered t)
  unlive : mine k (live t) ≡ []
  shown : is_life (life_of k (effects_so_far o t)) ≡ true

data State (o : Setting) (t : Trace) (k : ℕ) : Type 0 where
  ToCome : IsToCome o t k → State o t k
  Going : IsGoing o t k → State o t k
  Gone : IsGone o t k → State o t k

-- ---- one item more

-- what of the ticket is live after the item
live_more : (item : List Mark) (t : Trace) (k : ℕ)
    → mine k (live (item ∷ t)) ≡ filter (λ c. not (list_any (leaves_ticket c.ticket) item)) (mine k (live t)) ++ filter (λ c. not (has (leaves_ticket c.ticket) (item ∷ t))) (mine k (filter_map enters item))
live_more item t k = grind (arith, live-item, filter-append, filter-swap)

-- the command of a ticket has it
mine-ticket : (k : ℕ) (cs : List Command) (c : Command) → mine k cs ≡ c ∷ [] → (c.ticket == k) ≡ true
mine-ticket k cs c h = (in-filter (λ d. d.ticket == k) cs c (subst (In c) (sym h) (inl refl))).1

module _ (o : Setting) (now : ℕ) (t : Trace) (next : ℕ) (x : HaveForms o next t) (form : Form) (formed : IsFormed o now t form) (k : ℕ) where
  -- what the item shows of the ticket
  shown_more : life_of k (effects_so_far o (marks_of_form form ∷ t))
      ≡ life_of k (effects_so_far o t) ++ ((map leave_effect (mine k (leaving_in form)) ++ map enter_effect (mine k (to_list (entering_in form)))) ++ map enable_effect (mine k (newly_enabled o t (marks_of_form form))))
  shown_more = grind (arith, filter-append, life_item)

  -- ---- it doesn't enter in the item

  live_unentered : mine k (to_list (entering_in form)) ≡ [] → mine k (live (marks_of_form form ∷ t)) ≡ filter (λ c. not (list_any (leaves_ticket c.ticket) (marks_of_form form))) (mine k (live t))
  live_unentered none = grind (arith, live_more, enters_form, append-nil)

  shown_unentered : mine k (to_list (entering_in form)) ≡ [] → life_of k (effects_so_far o (marks_of_form form ∷ t))
      ≡ life_of k (effects_so_far o t) ++ (map leave_effect (mine k (leaving_in form)) ++ map enable_effect (mine k (newly_enabled o t (marks_of_form form))))
  shown_unentered none = grind (arith, shown_more, append-nil)

  -- nothing of it is live: nothing leaves, and nothing becomes enabled
  unlive_leaving : mine k (live t) ≡ [] → mine k (leaving_in form) ≡ []
  unlive_leaving none = grind (arith, mine-none, among-mine, leaving_live, leaves_form)

  unlive_after : mine k (live t) ≡ [] → mine k (to_list (entering_in form)) ≡ [] → mine k (live (marks_of_form form ∷ t)) ≡ []
  unlive_after unlive none = live_unentered none ∙ ap (filter (λ c. not (list_any (leaves_ticket c.ticket) (marks_of_form form)))) unlive

  unlive_shown : mine k (live t) ≡ [] → mine k (to_list (entering_in form)) ≡ [] → life_of k (effects_so_far o (marks_of_form form ∷ t)) ≡ life_of k (effects_so_far o t)
  unlive_shown unlive none = grind (arith, nat_tests, shown_unentered, unlive_leaving, newly_none, unlive_after, append-nil)

  -- ---- a command that is live

  -- it stays: it may become enabled
  going_stays : (g : IsGoing o t k) → mine k (to_list (entering_in form)) ≡ [] → mine k (leaving_in form) ≡ [] → length (entered t) ≤ length (entered (marks_of_form form ∷ t)) → IsGoing o (marks_of_form form ∷ t) k
  going_stays g none unleft more = record {
    some = g.some;
    past = omega (arith, g.past, more);
    command = g.command;
    live_one = still;
    below = g.below;
    shown = grind (arith, shown_unentered none, newly_one o t (marks_of_form form) k g.command still g.below);
  }
    where
      same : (g.command.ticket == k) ≡ true
      same = mine-ticket k (live t) g.command g.live_one

      here : list_any (leaves_ticket g.command.ticket) (marks_of_form form) ≡ false
      here = ap (λ n. list_any (leaves_ticket n) (marks_of_form form)) (eqb-true g.command.ticket k same) ∙ leaves_form k form ∙ among-mine k (leaving_in form) unleft

      still : mine k (live (marks_of_form form ∷ t)) ≡ g.command ∷ []
      still = grind (arith, live_unentered none, here)

  -- it leaves, alone and from its own unit
  record LeavesAlone (c : Command) : Type 0 where
    leaver : Command
    only : mine k (leaving_in form) ≡ leaver ∷ []
    unit : (leaver.unit == c.unit) ≡ true

  leaves_alone : (g : IsGoing o t k) → (d : Command) (ds : List Command) → mine k (leaving_in form) ≡ d ∷ ds → LeavesAlone g.command
  leaves_alone g d ds is = by_rest ds is
    where
      -- of those that leave with the ticket no more pass than of the live one
      few : (p : Command → Bool) → count_by p (mine k (leaving_in form)) ≤ cond (p g.command) 1 0 + 0
      few p = grind (arith, nat_tests, count-mine p k (live t), count-mine p k (leaving_in form), sum_by-cons, leaving_few)

      by_rest : (es : List Command) → mine k (leaving_in form) ≡ d ∷ es → LeavesAlone g.command
      by_rest (e ∷ es) is = absurd (
          let all : count_by (λ c. true) (d ∷ e ∷ es) ≡ 1 + count_by (λ c. true) (e ∷ es) = sum_by-cons (λ c. 1) d (e ∷ es) in
          let rest : count_by (λ c. true) (e ∷ es) ≡ 1 + count_by (λ c. true) es = sum_by-cons (λ c. 1) e es in
          let z : ⊥ = omega (arith, all, rest, few (λ c. true), ap (count_by (λ c. true)) is) in z)
      by_rest [] is = grind (arith, few (λ c. not (c.unit == g.command.unit)))

  going_leaves : (g : IsGoing o t k) → mine k (to_list (entering_in form)) ≡ [] → LeavesAlone g.command → length (entered t) ≤ length (entered (marks_of_form form ∷ t)) → IsGone o (marks_of_form form ∷ t) k
  going_leaves g none l more = record {
    some = g.some;
    past = omega (arith, g.past, more);
    unlive = over;
    shown = grind (arith, shown_unentered none, newly_none o t (marks_of_form form) k over);
  }
    where
      leaves : list_any (leaves_ticket g.command.ticket) (marks_of_form form) ≡ true
      leaves =
          grind (arith, nat_tests, eqb-true, mine-ticket k (live t) g.command g.live_one, leaves_form k form, mine-none)

      over : mine k (live (marks_of_form form ∷ t)) ≡ []
      over = grind (arith, live_unentered none, leaves)

  -- ---- a command that enters

  enters_now : IsToCome o t k → (c : Command) → entering_in form ≡ Some c → EntersNext o t form c → (c.ticket == k) ≡ true → IsGoing o (marks_of_form form ∷ t) k
  enters_now s c is e same = record {
    some = omega (arith, number, e.next);
    past = omega (arith, number, e.next, long);
    command = c;
    live_one = there;
    below = e.below;
    shown = grind (arith, shown_more, newly_one o t (marks_of_form form) k c there e.below, unfree);
  }
    where
      number : c.ticket ≡ k
      number = eqb-true c.ticket k same

      entered_is : filter_map enters (marks_of_form form) ≡ c ∷ []
      entered_is = enters_form form ∙ ap (λ y. to_list y) is

      long : length (entered (marks_of_form form ∷ t)) ≡ length (entered t) + 1
      long = ap (λ cs. length (entered t ++ cs)) entered_is ∙ length-append (entered t) (c ∷ [])

      unleft : has (leaves_ticket c.ticket) (marks_of_form form ∷ t) ≡ false
      unleft = grind (arith, leaves_form c.ticket form)

      there : mine k (live (marks_of_form form ∷ t)) ≡ c ∷ []
      there = grind (arith, live_more (marks_of_form form) t k, entered_is, unleft)

      unfree : was_free c t ≡ false
      unfree = never_free c t (beyond_entered o t next x c.ticket (omega (arith, e.next)))

  -- ---- any state

  -- another command enters, or none
  other_enters : (y : Option Command) → entering_in form ≡ y → Each (EntersNext o t form) y → State o t k → State o (marks_of_form form ∷ t) k
  other_enters y is e s = by_entering y is e
    where
      not_entered : mine k (to_list (entering_in form)) ≡ [] → (n : ℕ) → length (entered (marks_of_form form ∷ t)) ≡ n → length (entered t) ≤ n → ((k ≡ 0) ⊎ (length (entered t) < k) → (k ≡ 0) ⊎ (n < k)) → State o (marks_of_form form ∷ t) k
      not_entered none n long more still = by_state s
        where
          by_state : State o t k → State o (marks_of_form form ∷ t) k
          by_state (ToCome q) = ToCome (record {
            not_yet = subst (λ m. (k ≡ 0) ⊎ (m < k)) (sym long) (still q.not_yet);
            unlive = unlive_after q.unlive none;
            unleft = ap (λ b. b || has (leaves_ticket k) t) (leaves_form k form ∙ among-mine k (leaving_in form) (unlive_leaving q.unlive)) ∙ q.unleft;
            shown = unlive_shown q.unlive none ∙ q.shown;
          })
          by_state (Going g) = by_leaving (mine k (leaving_in form)) refl
            where
              by_leaving : (cs : List Command) → mine k (leaving_in form) ≡ cs → State o (marks_of_form form ∷ t) k
              by_leaving [] h = Going (going_stays g none h (omega (arith, long, more)))
              by_leaving (d ∷ ds) h = Gone (going_leaves g none (leaves_alone g d ds h) (omega (arith, long, more)))
          by_state (Gone q) = grind (arith, unlive_after, unlive_shown)

      by_entering : (y : Option Command) → entering_in form ≡ y → Each (EntersNext o t form) y → State o (marks_of_form form ∷ t) k
      by_entering None is e =
          not_entered (ap (λ z. mine k (to_list z)) is) (length (entered t))
          (ap (λ cs. length (entered t ++ cs)) (enters_form form ∙ ap (λ z. to_list z) is) ∙ ap length (append-nil (entered t)))
          (omega arith) (λ h. h)
      by_entering (Some c) is e = by_ticket (c.ticket == k) refl s
        where
          long : length (entered (marks_of_form form ∷ t)) ≡ length (entered t) + 1
          long = ap (λ cs. length (entered t ++ cs)) (enters_form form ∙ ap (λ z. to_list z) is) ∙ length-append (entered t) (c ∷ [])

          by_ticket : (b : Bool) → (c.ticket == k) ≡ b → State o t k → State o (marks_of_form form ∷ t) k
          by_ticket true same (ToCome q) = Going (enters_now q c is e same)
          by_ticket true same (Going g) = absurd (let number : c.ticket ≡ k = eqb-true c.ticket k same in let z : ⊥ = omega (arith, g.past, e.next, number) in z)
          by_ticket true same (Gone q) = absurd (let number : c.ticket ≡ k = eqb-true c.ticket k same in let z : ⊥ = omega (arith, q.past, e.next, number) in z)
          by_ticket false apart q =
              not_entered (ap (λ z. mine k (to_list z)) is ∙ ap (λ b. cond b (c ∷ []) []) apart) (length (entered t) + 1) long (omega arith)
              (λ h. ⊎_elim (λ zeroth. inl zeroth) (λ later. inr (let z : length (entered t) + 1 < k = grind arith in z)) h)

state_more : (o : Setting) (k : ℕ) (t : Trace) (next : ℕ) → HaveForms o next t → State o t k
state_more o k [] next x = grind arith
state_more o k (item ∷ t) next x = grind (arith, nat_tests, state_more o k t _ x.1.1.1, other_enters, entering_next)

-- ---- the log

state_life : (o : Setting) (t : Trace) (k : ℕ) → State o t k → is_life (life_of k (effects_so_far o t)) ≡ true
state_life o t k state = grind arith

-- the tickets that effects show as entering are those of the commands that entered
tickets_of_marks : (o : Setting) (t : Trace) (ms : List Mark) → tickets_entered (flat_map (effects_of_mark o t) ms) ≡ map (λ (c : Command). c.ticket) (filter_map enters ms)
tickets_of_marks o t [] = refl
tickets_of_marks o t (Enters c ∷ ms) = ap (λ ns. c.ticket ∷ ns) (tickets_of_marks o t ms)
tickets_of_marks o t (m ∷ ms) = tickets_of_marks o t ms

tickets_of_enables : (cs : List Command) → tickets_entered (map enable_effect cs) ≡ []
tickets_of_enables [] = refl
tickets_of_enables (c ∷ cs) = tickets_of_enables cs

tickets_shown : (o : Setting) (t : Trace) → tickets_entered (effects_so_far o t) ≡ map (λ (c : Command). c.ticket) (entered t)
tickets_shown o [] = refl
tickets_shown o (item ∷ t) =
    filter_map-append ticket_entered (effects_so_far o t) (effects_of_item o t item)
    ∙ ap (λ ns. ns ++ tickets_entered (effects_of_item o t item)) (tickets_shown o t)
    ∙ ap (λ ns. map (λ (c : Command). c.ticket) (entered t) ++ ns)
    (filter_map-append ticket_entered (flat_map (effects_of_mark o t) item) (map enable_effect (newly_enabled o t item))
    ∙ ap (λ ns. tickets_entered (flat_map (effects_of_mark o t) item) ++ ns) (tickets_of_enables (newly_enabled o t item))
    ∙ append-nil (tickets_entered (flat_map (effects_of_mark o t) item)) ∙ tickets_of_marks o t item)
    ∙ sym (map-append (λ (c : Command). c.ticket) (entered t) (filter_map enters item))

-- in the log of every list of events each command is started at most once
pub starts_once : (o : Setting) (h : List Event) → StartsOnce (run_of o h)
starts_once o h =
    let t : Trace = trace_of o h in
    let x : HaveForms o (length h) t = trace_has_forms o h in
    let effects : effects_in (run_of o h) ≡ effects_so_far o t = sym (log_effects o 0 [] h) in
    let entered_are : tickets_entered (effects_in (run_of o h)) ≡ range_with_len 1 (length (entered t)) = ap tickets_entered effects ∙ tickets_shown o t ∙ tickets_count o t (length h) x in
    let long : length (tickets_entered (effects_in (run_of o h))) ≡ length (entered t) = ap length (ap tickets_entered effects ∙ tickets_shown o t) ∙ length-map (entered t) (λ (c : Command). c.ticket) in
    record {
      tickets = entered_are ∙ ap (range_with_len 1) (sym long);
      lives = λ k. ap (λ es. is_life (life_of k es)) effects ∙ state_life o t k (state_more o k t (length h) x);
    }
