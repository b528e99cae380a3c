-- The answers that would go out on a connection are dropped, in both.
use Rattle.std.proofs.Common.{◌≡◌, ℕ, ◌+◌, ◌==◌, ◌||◌, not, cond, Bool, true, false, List, [], ◌∷◌, ◌++◌, filter, count_by, refl, ap, sym, subst, ◌∙◌, arith, append-nil}
use Rattle.std.specs.List.{list_any}
use Rattle.std.proofs.lemmas.List.Elements.{filter-append}
use Rattle.iscsi_arrivals.proofs.CountLemmas.{count-cons}
use Rattle.iscsi_outbox_rules.specs.rules.Boxes.{Answer}
use Rattle.iscsi_outbox_rules.specs.rules.Words.{contains}
use Rattle.iscsi_outbox_state.specs.declared.lane.Aim.{Aim}
use Rattle.iscsi_outbox_state.specs.declared.lane.Undue.{Undue}
use Rattle.iscsi_outbox_state.specs.declared.lane.Standing.{Standing}
use Rattle.iscsi_outbox_state.specs.declared.lane.Standing.TheVariants.{Left as IsLeft, Undue as IsUndue}
use Rattle.iscsi_outbox_state.specs.Lane.{goes_out_on, is_command, is_left}
use Rattle.iscsi_outbox_steps.specs.Steps.{is_live}
use Rattle.iscsi_tracked.specs.Tracked.{Tracked}
use Rattle.iscsi_outbox_law.specs.private.Pairs.{EachOf}
use Rattle.iscsi_outbox_law.specs.private.Lanes.{AreAnswers, AreLeft, IsAnswer, is_aimed_at}

-- what stays: all but the answers of this connection
abbrev pub kept_items : ℕ → List Standing → List Standing
kept_items p items = filter (λ x. not (goes_out_on p x)) items

abbrev pub kept_answers : ℕ → List Answer → List Answer
kept_answers cid answers = filter (λ (a : Answer). not (a.conn == cid)) answers

aimed_dropped : (p : ℕ) (aim : Aim) (n : ℕ) (items : List Standing) → list_any (is_aimed_at aim n) (kept_items p items) ≡ list_any (is_aimed_at aim n) items
aimed_dropped p aim n [] = refl
aimed_dropped p aim n (IsLeft c ∷ items) = ap (λ (w : Bool). is_aimed_at aim n (IsLeft c) || w) (aimed_dropped p aim n items)
aimed_dropped p aim n (IsUndue a ∷ items) =
    let rest = aimed_dropped p aim n items in
    elim (a.conn == p) as (λ w. list_any (is_aimed_at aim n) (cond (not w) (IsUndue a ∷ kept_items p items) (kept_items p items)) ≡ list_any (is_aimed_at aim n) items) [ true ↦ rest | false ↦ rest ]

commands_dropped : (p n : ℕ) (items : List Standing) → filter (is_command n) (kept_items p items) ≡ filter (is_command n) items
commands_dropped p n [] = refl
commands_dropped p n (IsLeft c ∷ items) = ap (λ xs. cond (c.command == n) (IsLeft c ∷ xs) xs) (commands_dropped p n items)
commands_dropped p n (IsUndue a ∷ items) =
    let rest = commands_dropped p n items in
    elim (a.conn == p) as (λ w. filter (is_command n) (cond (not w) (IsUndue a ∷ kept_items p items) (kept_items p items)) ≡ filter (is_command n) items) [ true ↦ rest | false ↦ rest ]

counted_dropped : (p : ℕ) (items : List Standing) → count_by is_left (kept_items p items) ≡ count_by is_left items
counted_dropped p [] = refl
counted_dropped p (IsLeft c ∷ items) = count-cons is_left (IsLeft c) (kept_items p items) ∙ ap (λ n. 1 + n) (counted_dropped p items) ∙ sym (count-cons is_left (IsLeft c) items)
counted_dropped p (IsUndue a ∷ items) =
    let rest = counted_dropped p items in
    let none : (xs : List Standing) → count_by is_left (IsUndue a ∷ xs) ≡ 0 + count_by is_left xs = λ xs. count-cons is_left (IsUndue a) xs in
    elim (a.conn == p) as (λ w. count_by is_left (cond (not w) (IsUndue a ∷ kept_items p items) (kept_items p items)) ≡ count_by is_left (IsUndue a ∷ items)) [
      | true ↦ (let e = none items in omega (arith, e, rest))
      | false ↦ (let e = none items in let f = none (kept_items p items) in omega (arith, e, f, rest))
    ]

pub left_dropped : (v : Tracked) (p : ℕ) (items : List Standing) → AreLeft v items → AreLeft v (kept_items p items)
left_dropped v p items h = record { each = λ n. commands_dropped p n items ∙ h.each n; counted = counted_dropped p items ∙ h.counted }

module _ (cids : List ℕ) (v : Tracked) (p cid : ℕ) (same : (before : List Standing) (a : Undue) (answer : Answer) → IsAnswer cids v before a answer → (a.conn == p) ≡ (answer.conn == cid)) where
  answer_front : (before : List Standing) (a : Undue) (answer : Answer) → IsAnswer cids v before a answer → IsAnswer cids v (kept_items p before) a answer
  answer_front before a answer h = record {
    pdu = h.pdu;
    sent = h.sent;
    conn = h.conn;
    aim = h.aim;
    takes = h.takes;
    fenced = h.fenced;
    numbered = h.numbered;
    ends = h.ends;
    ticket = h.ticket;
    uncleared = h.uncleared;
    scope = subst (λ (f : Aim → ℕ → Bool). EachOf (λ c. is_live c ≡ false → contains answer.out.scope c.ticket ≡ f a.aim c.place) v.commands) (λ i aim place. sym (aimed_dropped p aim place before) i) h.scope;
  }

  pub answers_dropped : (before items : List Standing) (answers : List Answer) → AreAnswers cids v before items answers → AreAnswers cids v (kept_items p before) (kept_items p items) (kept_answers cid answers)
  answers_dropped before [] [] h = tt
  answers_dropped before [] (answer ∷ answers) h = absurd h
  answers_dropped before (IsLeft c ∷ items) answers h =
      subst (λ xs. AreAnswers cids v xs (kept_items p items) (kept_answers cid answers)) (filter-append (λ x. not (goes_out_on p x)) before (IsLeft c ∷ [])) (answers_dropped (before ++ IsLeft c ∷ []) items answers h)
  answers_dropped before (IsUndue a ∷ items) [] h = absurd h
  answers_dropped before (IsUndue a ∷ items) (answer ∷ answers) h =
      let rest : AreAnswers cids v (kept_items p (before ++ IsUndue a ∷ [])) (kept_items p items) (kept_answers cid answers) = answers_dropped (before ++ IsUndue a ∷ []) items answers h.1 in
      let front : AreAnswers cids v (kept_items p before ++ kept_items p (IsUndue a ∷ [])) (kept_items p items) (kept_answers cid answers) =
      subst (λ xs. AreAnswers cids v xs (kept_items p items) (kept_answers cid answers)) (filter-append (λ x. not (goes_out_on p x)) before (IsUndue a ∷ [])) rest in
      let here : IsAnswer cids v (kept_items p before) a answer = answer_front before a answer h.0 in
      subst (λ w. AreAnswers cids v (kept_items p before) (kept_items p (IsUndue a ∷ items)) (cond (not w) (answer ∷ kept_answers cid answers) (kept_answers cid answers))) (same before a answer h.0)
      (elim (a.conn == p) as (λ w. AreAnswers cids v (kept_items p before ++ cond (not w) (IsUndue a ∷ []) []) (kept_items p items) (kept_answers cid answers)
      → AreAnswers cids v (kept_items p before) (cond (not w) (IsUndue a ∷ kept_items p items) (kept_items p items)) (cond (not w) (answer ∷ kept_answers cid answers) (kept_answers cid answers))) [
        | true ↦ λ k. subst (λ xs. AreAnswers cids v xs (kept_items p items) (kept_answers cid answers)) (append-nil (kept_items p before)) k
        | false ↦ λ k. (here, k)
      ] front)
