-- A command that lives leaves: what stands in the lane, and the answers there.
use Rattle.std.proofs.Common.{◌≡◌, ℕ, ◌+◌, ◌&&◌, ◌||◌, ⊎_elim, not, cond, Bool, true, false, List, [], ◌∷◌, ◌++◌, filter, count_by, Some, refl, ap, sym, subst, ◌∙◌, arith, eq-eqb, ne_eqb, append-nil}
use Rattle.std.specs.List.{find, list_any}
use Rattle.std.proofs.lemmas.Bool.{cases_eq, eqb-true}
use Rattle.std.proofs.lemmas.List.Elements.{filter-append}
use Rattle.iscsi_arrivals.proofs.CountLemmas.{count-cons}
use Rattle.iscsi_outbox_rules.specs.rules.Boxes.{Answer}
use Rattle.iscsi_outbox_rules.specs.rules.Words.{contains}
use Rattle.iscsi_outbox_state.specs.declared.lane.Aim.{Aim}
use Rattle.iscsi_outbox_state.specs.declared.lane.Left.{Left}
use Rattle.iscsi_outbox_state.specs.declared.lane.Undue.{Undue}
use Rattle.iscsi_outbox_state.specs.declared.lane.Standing.{Standing}
use Rattle.iscsi_outbox_state.specs.declared.lane.Standing.TheVariants.{Left as IsLeft, Undue as IsUndue}
use Rattle.iscsi_outbox_state.specs.Lane.{aims_at, is_command, is_left}
use Rattle.iscsi_outbox_steps.specs.Steps.{is_live}
use Rattle.iscsi_tracked.specs.declared.command.Command.{Command}
use Rattle.iscsi_tracked.specs.Tracked.{Tracked, find_place, is_at, with_command}
use Rattle.iscsi_outbox_law.specs.private.Pairs.{EachOf}
use Rattle.iscsi_outbox_law.specs.private.Commands.{ArePlaced}
use Rattle.iscsi_outbox_law.specs.private.Lanes.{AreAnswers, AreLeft, IsAnswer, IsInScope, is_aimed_at, is_gone, left_at, left_of}
use Rattle.iscsi_outbox_law.proofs.general.PairLemmas.{each-append, each-filter}
use Rattle.iscsi_outbox_law.proofs.general.Members.{In}
use Rattle.iscsi_outbox_law.proofs.commands.LeftOut.{found_there}
use Rattle.iscsi_outbox_law.proofs.commands.TrackedLemmas.{KeepsPlace, at_place, each_map_in, same_place, same_ticket}
use Rattle.iscsi_outbox_law.proofs.commands.TrackedEnds.{none_find, other_find, others}
use Rattle.iscsi_outbox_law.proofs.sending.HandedLemmas.{answers_weaken}
use Rattle.iscsi_outbox_law.proofs.queues.Settling.{answers_append}

-- ---- lists

count_push : {A : Type 0} (p : A → Bool) (xs : List A) (x : A) → count_by p (xs ++ x ∷ []) ≡ count_by p xs + cond (p x) 1 0
count_push p [] x = count-cons p x [] ∙ zero_first (cond (p x) 1 0)
  where
    zero_first : (n : ℕ) → n + 0 ≡ 0 + n
    zero_first n = omega arith
count_push p (y ∷ xs) x =
    let rest = count_push p xs x in
    let e = count-cons p y (xs ++ x ∷ []) in
    let f = count-cons p y xs in
    omega (arith, e, f, rest)

-- none stands there for the command in this place
abbrev pub NoneStands : ℕ → List Standing → Type 0
NoneStands place items = EachOf (λ (x : Standing). is_command place x ≡ false) items

none_filtered : (place : ℕ) (items : List Standing) → filter (is_command place) items ≡ [] → NoneStands place items
none_filtered place [] none = tt
none_filtered place (x ∷ items) none =
    let rest : filter (is_command place) items ≡ [] → NoneStands place items = none_filtered place items in
    elim (is_command place x) as (λ w. is_command place x ≡ w → cond w (x ∷ filter (is_command place) items) (filter (is_command place) items) ≡ [] → NoneStands place (x ∷ items)) [
      | true ↦ λ is e. absurd cc
      | false ↦ λ is e. (is, rest e)
    ] refl none

none_aimed : (aim : Aim) (place : ℕ) (items : List Standing) → NoneStands place items → list_any (is_aimed_at aim place) items ≡ false
none_aimed aim place [] none = refl
none_aimed aim place (IsUndue a ∷ items) none = none_aimed aim place items none.1
none_aimed aim place (IsLeft d ∷ items) none = ap (λ (w : Bool). (w && aims_at aim d) || list_any (is_aimed_at aim place) items) none.0 ∙ none_aimed aim place items none.1

module _ (v : Tracked) (items : List Standing) (left : AreLeft v items) (placed : ArePlaced v) (c : Command) (kept : In c v.commands) (live : is_live c ≡ true) where
  found : find_place c.place v ≡ Some c
  found = found_there v c placed kept

  none_left : left_at (Some c) ≡ []
  none_left = ap (λ (u : Bool). cond u [] (IsLeft (left_of c) ∷ [])) live

  none_there : filter (is_command c.place) items ≡ []
  none_there = left.each c.place ∙ ap left_at found ∙ none_left

  -- no command that lives stands in the lane
  pub none_stands : NoneStands c.place items
  none_stands = none_filtered c.place items none_there

  pub none_waits : list_any (is_command c.place) items ≡ false
  none_waits = by_each items none_stands
    where
      by_each : (xs : List Standing) → NoneStands c.place xs → list_any (is_command c.place) xs ≡ false
      by_each [] k = refl
      by_each (x ∷ xs) k = ap (λ (w : Bool). w || list_any (is_command c.place) xs) k.0 ∙ by_each xs k.1

  -- ---- it isn't kept any more

  pub left_removed : (v' : Tracked) → v'.commands ≡ others c.place v.commands → count_by is_gone v'.commands ≡ count_by is_gone v.commands → AreLeft v' items
  left_removed v' commands same = record {
    each = λ n. left.each n ∙ by_place n;
    counted = left.counted ∙ sym same;
  }
    where
      by_place : (n : ℕ) → left_at (find_place n v) ≡ left_at (find_place n v')
      by_place n =
          ⊎_elim
          (λ same. ap (λ k. left_at (find_place k v)) same ∙ ap left_at found ∙ none_left ∙ sym (ap (λ cs. left_at (find (is_at n) cs)) commands ∙ ap (λ k. left_at (find (is_at k) (others c.place v.commands))) same ∙ ap left_at (none_find c.place v.commands)))
          (λ apart. sym (ap (λ cs. left_at (find (is_at n) cs)) commands ∙ ap left_at (other_find c.place n v.commands apart)))
          (cases_eq n c.place)

  pub answers_removed : (cids : List ℕ) (v' : Tracked) → v'.commands ≡ others c.place v.commands → (answers : List Answer) → AreAnswers cids v [] items answers → AreAnswers cids v' [] items answers
  answers_removed cids v' commands answers h =
      answers_weaken cids v v' (λ before a answer k. subst (EachOf (IsInScope before a answer)) (sym commands) (each-filter (IsInScope before a answer) (λ (d : Command). not (is_at c.place d)) v.commands k)) [] items answers h

  -- ---- it is kept, and lives still

  pub left_lives : (v' : Tracked) → ((n : ℕ) → (n ≡ c.place → ⊥) → find_place n v' ≡ find_place n v) → left_at (find_place c.place v') ≡ [] → count_by is_gone v'.commands ≡ count_by is_gone v.commands → AreLeft v' items
  left_lives v' there here same = record {
    each = λ n. left.each n ∙ ⊎_elim (λ is. ap (λ k. left_at (find_place k v)) is ∙ ap left_at found ∙ none_left ∙ sym here ∙ sym (ap (λ k. left_at (find_place k v')) is)) (λ apart. sym (ap left_at (there n apart))) (cases_eq n c.place);
    counted = left.counted ∙ sym same;
  }

  module _ (f : Command → Command) (fits : KeepsPlace f) (cids : List ℕ) (v' : Tracked) (commands : v'.commands ≡ with_command f c.place v.commands) where
    pub answers_live : ((d : Command) → In d v.commands → is_live (at_place f c.place d) ≡ is_live d) → (answers : List Answer) → AreAnswers cids v [] items answers → AreAnswers cids v' [] items answers
    answers_live lives answers h =
        answers_weaken cids v v'
        (λ before a answer k. subst (EachOf (IsInScope before a answer)) (sym commands)
        (each_map_in (IsInScope before a answer) (IsInScope before a answer) (at_place f c.place) v.commands
        (λ d at j gone. ap (contains answer.out.scope) (same_ticket f fits c.place d) ∙ j (sym (lives d at) ∙ gone) ∙ sym (ap (λ n. list_any (is_aimed_at a.aim n) before) (same_place f fits c.place d))) k))
        [] items answers h

    -- ---- it is kept, and left

    -- no answer that waits has it in its scope
    abbrev pub IsFree : Answer → Type 0
    IsFree answer = contains answer.out.scope c.ticket ≡ false

    module _ (by_place : (d : Command) → In d v.commands → d.place ≡ c.place → d ≡ c) where
      scope_with : (before : List Standing) (a : Undue) (answer : Answer) → NoneStands c.place before → IsFree answer → EachOf (IsInScope before a answer) v.commands → EachOf (IsInScope before a answer) v'.commands
      scope_with before a answer none free k =
          subst (EachOf (IsInScope before a answer)) (sym commands)
          (each_map_in (IsInScope before a answer) (IsInScope before a answer) (at_place f c.place) v.commands
          (λ d at j. elim (is_at c.place d) as (λ w. is_at c.place d ≡ w → IsInScope before a answer (cond w (f d) d)) [
            | true ↦ λ here gone.
                let same : d ≡ c = by_place d at (eqb-true d.place c.place here) in
                ap (contains answer.out.scope) (fits.ticket d ∙ ap (λ (x : Command). x.ticket) same) ∙ free
                ∙ sym (ap (λ n. list_any (is_aimed_at a.aim n) before) (fits.place d ∙ ap (λ (x : Command). x.place) same) ∙ none_aimed a.aim c.place before none)
            | false ↦ λ there. j
          ] refl) k)

      answer_with : (before : List Standing) (a : Undue) (answer : Answer) → NoneStands c.place before → IsFree answer → IsAnswer cids v before a answer → IsAnswer cids v' before a answer
      answer_with before a answer none free k = record {
        pdu = k.pdu;
        sent = k.sent;
        conn = k.conn;
        aim = k.aim;
        takes = k.takes;
        fenced = k.fenced;
        numbered = k.numbered;
        ends = k.ends;
        ticket = k.ticket;
        uncleared = k.uncleared;
        scope = scope_with before a answer none free k.scope;
      }

      answers_with : (before xs : List Standing) (answers : List Answer) → NoneStands c.place before → NoneStands c.place xs → EachOf IsFree answers → AreAnswers cids v before xs answers → AreAnswers cids v' before xs answers
      answers_with before [] [] none behind free k = tt
      answers_with before [] (answer ∷ answers) none behind free k = absurd k
      answers_with before (IsLeft d ∷ xs) answers none behind free k =
          answers_with (before ++ IsLeft d ∷ []) xs answers (each-append (λ (x : Standing). is_command c.place x ≡ false) before (IsLeft d ∷ []) none (behind.0, tt)) behind.1 free k
      answers_with before (IsUndue a ∷ xs) [] none behind free k = absurd k
      answers_with before (IsUndue a ∷ xs) (answer ∷ answers) none behind free k = (
        answer_with before a answer none free.0 k.0,
        answers_with (before ++ IsUndue a ∷ []) xs answers (each-append (λ (x : Standing). is_command c.place x ≡ false) before (IsUndue a ∷ []) none (behind.0, tt)) behind.1 free.1 k.1,
      )

      pub answers_left : (d : Left) (answers : List Answer) → EachOf IsFree answers → AreAnswers cids v [] items answers → AreAnswers cids v' [] (items ++ IsLeft d ∷ []) answers
      answers_left d answers free h =
          subst (AreAnswers cids v' [] (items ++ IsLeft d ∷ [])) (append-nil answers)
          (answers_append cids v' [] items (IsLeft d ∷ []) answers [] (answers_with [] items answers tt none_stands free h) tt)

    pub left_more : is_live (f c) ≡ false → left_at (find_place c.place v') ≡ IsLeft (left_of (f c)) ∷ [] → ((n : ℕ) → (n ≡ c.place → ⊥) → find_place n v' ≡ find_place n v) → count_by is_gone v'.commands ≡ count_by is_gone v.commands + 1
        → AreLeft v' (items ++ IsLeft (left_of (f c)) ∷ [])
    left_more gone here there more = record {
      each = λ n. filter-append (is_command n) items (IsLeft (left_of (f c)) ∷ []) ∙ ⊎_elim (mine n) (other n) (cases_eq n c.place);
      counted = (let e = count_push is_left items (IsLeft (left_of (f c))) in let g = left.counted in omega (arith, e, g, more));
    }
      where
        mine : (n : ℕ) → n ≡ c.place → filter (is_command n) items ++ filter (is_command n) (IsLeft (left_of (f c)) ∷ []) ≡ left_at (find_place n v')
        mine n same =
            ap (λ k. filter (is_command k) items ++ filter (is_command k) (IsLeft (left_of (f c)) ∷ [])) same ∙ ap (λ xs. xs ++ filter (is_command c.place) (IsLeft (left_of (f c)) ∷ [])) none_there
            ∙ ap (λ (w : Bool). cond w (IsLeft (left_of (f c)) ∷ []) []) (eq-eqb (f c).place c.place (fits.place c)) ∙ sym here ∙ sym (ap (λ k. left_at (find_place k v')) same)

        other : (n : ℕ) → (n ≡ c.place → ⊥) → filter (is_command n) items ++ filter (is_command n) (IsLeft (left_of (f c)) ∷ []) ≡ left_at (find_place n v')
        other n apart =
            ap (λ (w : Bool). filter (is_command n) items ++ cond w (IsLeft (left_of (f c)) ∷ []) []) (ne_eqb (f c).place n (λ same. apart (sym same ∙ fits.place c)))
            ∙ append-nil (filter (is_command n) items) ∙ left.each n ∙ sym (ap left_at (there n apart))
