-- What an item that executes a request answers: the numbered commands that are live, with its reply to a numbered request, are more by
-- one at the most, and by none where the request is immediate.
use Rattle.std.proofs.Common.{◌≡◌, ℕ, ◌+◌, ◌≤◌, not, Bool, false, List, [], ◌∷◌, filter_map, count_by, Option, Some, None, refl, ap, sym, ◌∙◌, subst, arith}
use Rattle.iscsi_wire.specs.declared.reply.Reply.{Reply}
use Rattle.iscsi_wire.specs.Fields.{connection_of, is_immediate}
use Rattle.iscsi_rules.specs.declared.effect.Effect.{Effect}
use Rattle.iscsi_rules.specs.rules.Settings.{Setting}
use Rattle.iscsi_rules.specs.rules.Trace.{Arrival, Command, Mark, Sends, Trace, first_of, live}
use Rattle.iscsi_rules.specs.rules.Execution.{unfinished}
use Rattle.iscsi_rules.specs.rules.Run.{effects_of_item}
use Rattle.iscsi_rules.proofs.general.CountLemmas.{one, count-cons}
use Rattle.iscsi_rules.proofs.promises.NumberingLemmas.{to_list}
use Rattle.iscsi_rules.proofs.promises.ReplyForms.{replies_seen, live_form}
use Rattle.iscsi_rules.proofs.items.Forms.{Start, AtTurn, AtArrival, AfterWaiting, start_mark, Deeds, if_some, marks_done, Executed, marks_of_form, Starts, Each, EntersAs, IsFormed}
use Rattle.iscsi_rules.proofs.items.FormItems.{Does}
use Rattle.iscsi_outbox_rules.specs.rules.Items.{executing, tickets_left, reply_sent}
use Rattle.iscsi_outbox_rules.proofs.closes.ClosedItems.{send_of, sent_item}
use Rattle.iscsi_outbox_rules.proofs.numbers.ShownReplies.{answers, answers_numbered}

module _ (o : Setting) where
  -- an item that sends no reply answers nothing
  pub sends_none : (t : Trace) (item : List Mark) → filter_map send_of item ≡ [] → answers_numbered (effects_of_item o t item) ≡ false
  sends_none t item none =
      let es : List Effect = effects_of_item o t item in
      ap (λ rs. answers (executing es) (tickets_left es) (first_of rs)) (sent_item o t item ∙ none)

  -- live numbered commands, with what is answered to a numbered request, are more by one at the most, and by none where it is immediate
  answered_form : (now : ℕ) (t : Trace) (start : Start) (a : Arrival) (d : Deeds) → IsFormed o now t (Executed start a d)
      → unfinished (marks_of_form (Executed start a d) ∷ t) + one (answers_numbered (effects_of_item o t (marks_of_form (Executed start a d)))) ≤ unfinished t + one (not (is_immediate a.request))
  answered_form now t start a d x = by_entering d.entering x.1.enters (live_form o now t (Executed start a d) x p)
    where
      p : Command → Bool
      p = λ c. not (is_immediate c.arrival.request)

      item : List Mark
      item = marks_of_form (Executed start a d)

      at_most : one (answers_numbered (effects_of_item o t (marks_of_form (Executed start a d)))) ≤ one (not (is_immediate a.request))
      at_most = by_start start
        where
          by_reply : (tickets : List ℕ) (y : Option (ℕ × Reply)) → one (answers (Some a.request) tickets y) ≤ one (not (is_immediate a.request))
          by_reply tickets None = omega arith
          by_reply tickets (Some s) = omega arith

          of_effects : (es : List Effect) → one (answers (Some a.request) (tickets_left es) (first_of (filter_map reply_sent es))) ≤ one (not (is_immediate a.request))
          of_effects es = by_reply (tickets_left es) (first_of (filter_map reply_sent es))

          by_start : (s : Start) → one (answers_numbered (effects_of_item o t (marks_of_form (Executed s a d)))) ≤ one (not (is_immediate a.request))
          by_start AtTurn = of_effects (effects_of_item o t (marks_of_form (Executed AtTurn a d)))
          by_start AtArrival = of_effects (effects_of_item o t (marks_of_form (Executed AtArrival a d)))
          by_start AfterWaiting = of_effects (effects_of_item o t (marks_of_form (Executed AfterWaiting a d)))

      silent : d.reply ≡ None → answers_numbered (effects_of_item o t (marks_of_form (Executed start a d))) ≡ false
      silent none = sends_none t (marks_of_form (Executed start a d)) (by_start start)
        where
          done : filter_map send_of (marks_done a d) ≡ []
          done = replies_seen send_of (λ n. refl) (λ c. refl) (λ b. refl) (λ c. refl) (λ conn. refl) refl a d ∙ ap (λ y. filter_map send_of (if_some (Sends (connection_of a.request)) y)) none

          by_start : (s : Start) → filter_map send_of (marks_of_form (Executed s a d)) ≡ []
          by_start AtTurn = done
          by_start AtArrival = done
          by_start AfterWaiting = done

      by_entering : (y : Option Command) → Each (EntersAs o t a d) y → count_by p (live (marks_of_form (Executed start a d) ∷ t)) + count_by p d.leaving ≤ count_by p (live t) + count_by p (to_list y)
          → unfinished (marks_of_form (Executed start a d) ∷ t) + one (answers_numbered (effects_of_item o t (marks_of_form (Executed start a d)))) ≤ unfinished t + one (not (is_immediate a.request))
      by_entering None e more = omega (arith, more, at_most)
      by_entering (Some c) e more =
          omega (arith, more, ap one (silent e.silent), count-cons p c [], ap (λ (z : Command). one (not (is_immediate z.arrival.request))) e.next)

  pub answered_item : (now : ℕ) (t : Trace) (start : Start) (a : Arrival) (ms : List Mark) → Starts now t start a → Does o t start a ms
      → unfinished ((start_mark start a ∷ ms) ∷ t) + one (answers_numbered (effects_of_item o t (start_mark start a ∷ ms))) ≤ unfinished t + one (not (is_immediate a.request))
  answered_item now t start a ms starts d =
      subst (λ xs. unfinished ((start_mark start a ∷ xs) ∷ t) + one (answers_numbered (effects_of_item o t (start_mark start a ∷ xs))) ≤ unfinished t + one (not (is_immediate a.request))) (sym d.is)
      (answered_form now t start a d.deeds (starts, d.done))
