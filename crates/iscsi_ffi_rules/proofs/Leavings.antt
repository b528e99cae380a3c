-- The commands that leave in the items of an event: each once, and never again.
use Rattle.std.proofs.Common.{◌≡◌, ℕ, zero, suc, ◌+◌, ◌<◌, ◌≤◌, ◌==◌, ◌||◌, ⊎_elim, not, cond, Bool, true, false, List, [], ◌∷◌, ◌++◌, map, filter_map, count_by, length, refl, ap, ◌∙◌, arith}
use Rattle.std.specs.List.{list_any, range_with_len}
use Rattle.std.proofs.lemmas.Bool.{cases_eq}
use Rattle.std.proofs.lemmas.Bool.Decides.{nat_tests}
use Rattle.std.proofs.lemmas.List.{append-nil}
use Rattle.std.proofs.lemmas.List.Elements.{filter_map-append}
use Rattle.iscsi_wire.specs.Fields.{connection_of}
use Rattle.iscsi_rules.specs.rules.Settings.{Setting}
use Rattle.iscsi_rules.specs.rules.Trace.{Command, Mark, Voids, Leaves, Empties, Enters, Sends, ClosesConn, ClosesSession, Trace, after_items, has, leaves_ticket, entered, live, is_among}
use Rattle.iscsi_rules.proofs.promises.AbortMarks.{none_viewed}
use Rattle.iscsi_rules.proofs.general.BoolLemmas.{or_none}
use Rattle.iscsi_rules.proofs.general.CountLemmas.{one, count-cons}
use Rattle.iscsi_rules.proofs.general.ListLemmas.{count_by-map, fewer_counted}
use Rattle.iscsi_rules.proofs.items.Forms.{Start, AtTurn, AtArrival, AfterWaiting, start_mark, if_some, marks_done, Form, Ignored, Rejected, Received, Postponed, Completed, Executed, marks_of_form, IsFormed, HasForm, HaveForms}
use Rattle.iscsi_rules.proofs.promises.LifeLemmas.{tickets_count}
use Rattle.iscsi_rules.proofs.promises.MomentLemmas.{left_unlive}
use Rattle.iscsi_rules.proofs.promises.NumberingLemmas.{unseen, passed}
use Rattle.iscsi_rules.proofs.items.TouchLemmas.{leaving_in, leaves_form, leaving_few}
use Rattle.iscsi_outbox_rules.specs.rules.Calls.{Opening}
use Rattle.iscsi_outbox_rules.proofs.room.RoomLives.{forms_below, first_form}
use Rattle.iscsi_ffi_rules.specs.rules.Happening.{leaving}

-- ---- which leave in an item

leaving_all : (cs : List Command) → filter_map leaving (map Leaves cs) ≡ cs
leaving_all [] = refl
leaving_all (c ∷ cs) = ap (λ ds. c ∷ ds) (leaving_all cs)

pub leaving_form : (form : Form) → filter_map leaving (marks_of_form form) ≡ leaving_in form
leaving_form (Ignored why) = refl
leaving_form (Rejected a) = refl
leaving_form (Received a) = refl
leaving_form (Postponed a) = refl
leaving_form (Completed c status) = refl
leaving_form (Executed start a d) = by_start start
  where
    ends : (b : Bool) → filter_map leaving (cond b (ClosesSession ∷ []) []) ≡ []
    ends true = refl
    ends false = refl

    done : filter_map leaving (marks_done a d) ≡ d.leaving
    done =
        passed leaving (if_some Voids d.void) _ (unseen leaving Voids d.void (λ n. refl))
        ∙ filter_map-append leaving (map Leaves d.leaving) _
        ∙ ap (λ cs. cs ++ filter_map leaving (map Empties d.emptied ++ (if_some Enters d.entering ++ (if_some (Sends (connection_of a.request)) d.reply ++ (if_some ClosesConn d.closing ++ cond d.ending (ClosesSession ∷ []) []))))) (leaving_all d.leaving)
        ∙ ap (λ cs. d.leaving ++ cs)
        (passed leaving (map Empties d.emptied) _ (none_viewed leaving Empties d.emptied (λ b. refl))
        ∙ passed leaving (if_some Enters d.entering) _ (unseen leaving Enters d.entering (λ c. refl))
        ∙ passed leaving (if_some (Sends (connection_of a.request)) d.reply) _ (unseen leaving (Sends (connection_of a.request)) d.reply (λ reply. refl))
        ∙ passed leaving (if_some ClosesConn d.closing) _ (unseen leaving ClosesConn d.closing (λ conn. refl))
        ∙ ends d.ending)
        ∙ append-nil d.leaving

    by_start : (s : Start) → filter_map leaving (start_mark s a ∷ marks_done a d) ≡ d.leaving
    by_start AtTurn = done
    by_start AtArrival = done
    by_start AfterWaiting = done

-- ---- a ticket is that of one command

abbrev pub has_ticket : ℕ → Command → Bool
has_ticket k c = c.ticket == k

pub none_with : (k : ℕ) (cs : List Command) → is_among k cs ≡ false → count_by (has_ticket k) cs ≤ 0
none_with k [] h = omega arith
none_with k (c ∷ cs) h =
    let parts = or_none (c.ticket == k) (is_among k cs) h in
    omega (arith, count-cons (has_ticket k) c cs, ap one parts.0, none_with k cs parts.1)

below_range : (k a n : ℕ) → k < a → count_by (λ j. j == k) (range_with_len a n) ≡ 0
below_range k a zero low = refl
below_range k a (suc n) low =
    let apart : (a == k) ≡ false = grind (arith, nat_tests) in
    omega (arith, count-cons (λ j. j == k) a (range_with_len (a + 1) n), ap one apart, below_range k (a + 1) n (omega arith))

once_in_range : (k a n : ℕ) → count_by (λ j. j == k) (range_with_len a n) ≤ 1
once_in_range k a zero = omega arith
once_in_range k a (suc n) =
    let all : count_by (λ j. j == k) (range_with_len a (suc n)) ≡ one (a == k) + count_by (λ j. j == k) (range_with_len (a + 1) n) = count-cons (λ j. j == k) a (range_with_len (a + 1) n) in
    ⊎_elim
    (λ same. omega (arith, all, one_most (a == k), below_range k (a + 1) n (omega (arith, same))))
    (λ apart. let not_here : (a == k) ≡ false = grind (arith, nat_tests) in omega (arith, all, ap one not_here, once_in_range k (a + 1) n))
    (cases_eq a k)
  where
    one_most : (b : Bool) → one b ≤ 1
    one_most true = omega arith
    one_most false = omega arith

module _ (o : Setting) (k : ℕ) where
  pub one_with : (t : Trace) (next : ℕ) → HaveForms o next t → count_by (has_ticket k) (entered t) ≤ 1
  one_with t next x =
      omega (
        arith,
        count_by-map (λ j. j == k) (λ (c : Command). c.ticket) (entered t),
        ap (count_by (λ j. j == k)) (tickets_count o t next x),
        once_in_range k 1 (length (entered t)),
      )

  pub one_live : (t : Trace) (next : ℕ) → HaveForms o next t → count_by (has_ticket k) (live t) ≤ 1
  one_live t next x = omega (arith, fewer_counted (has_ticket k) (λ (c : Command). not (has (leaves_ticket c.ticket) t)) (entered t), one_with t next x)

  -- one that is live didn't leave
  pub live_or_left : (t : Trace) (next : ℕ) → HaveForms o next t → count_by (has_ticket k) (live t) + one (has (leaves_ticket k) t) ≤ 1
  live_or_left t next x = by_left (has (leaves_ticket k) t) refl
    where
      by_left : (b : Bool) → has (leaves_ticket k) t ≡ b → count_by (has_ticket k) (live t) + one b ≤ 1
      by_left true is = omega (arith, none_with k (live t) (left_unlive t k is))
      by_left false is = omega (arith, one_live t next x)

  -- ---- in an item

  leaves_once : (now next : ℕ) (t : Trace) (form : Form) → HaveForms o next t → IsFormed o now t form
      → count_by (has_ticket k) (leaving_in form) + one (has (leaves_ticket k) t) ≤ one (has (leaves_ticket k) (marks_of_form form ∷ t))
  leaves_once now next t form x formed = by_among (is_among k (leaving_in form)) refl
    where
      few : count_by (has_ticket k) (leaving_in form) ≤ count_by (has_ticket k) (live t)
      few = leaving_few o now t form formed (has_ticket k)

      left_more : (b v : Bool) → one v ≤ one (b || v)
      left_more true true = omega arith
      left_more true false = omega arith
      left_more false v = omega arith

      by_among : (b : Bool) → is_among k (leaving_in form) ≡ b → count_by (has_ticket k) (leaving_in form) + one (has (leaves_ticket k) t) ≤ one (has (leaves_ticket k) (marks_of_form form ∷ t))
      by_among true is =
          omega (arith, few, live_or_left t next x, ap (λ b. one (b || has (leaves_ticket k) t)) (leaves_form k form ∙ is))
      by_among false is =
          omega (arith, none_with k (leaving_in form) is, left_more (list_any (leaves_ticket k) (marks_of_form form)) (has (leaves_ticket k) t))

  -- ---- in the items of an event

  -- how many leave with this ticket
  abbrev pub leavings : List (List Mark) → ℕ
  leavings [] = 0
  leavings (item ∷ items) = count_by (has_ticket k) (filter_map leaving item) + leavings items

pub leavings_once : (o : Opening) (k : ℕ) (items : List (List Mark)) (t : Trace) (next : ℕ) → HaveForms o.session next (after_items items t)
    → leavings o.session k items + one (has (leaves_ticket k) t) ≤ one (has (leaves_ticket k) (after_items items t))
leavings_once o k [] t next x = omega arith
leavings_once o k (item ∷ items) t next x =
    let before = forms_below o (item ∷ items) t next x in
    let f = first_form o items item t next x in
    let h : HasForm o.session f.0 t item = f.1 in
    omega (
      arith,
      ap (count_by (has_ticket k)) (ap (filter_map leaving) h.is ∙ leaving_form h.form),
      leaves_once o.session k f.0 before.0 t h.form before.1 h.formed,
      ap (λ (ms : List Mark). one (has (leaves_ticket k) (ms ∷ t))) h.is,
      leavings_once o k items (item ∷ t) next x,
    )
