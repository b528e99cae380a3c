-- A command that left owes less, or nothing more: the commands that are kept and the lane go together still.
use Rattle.std.proofs.Common.{◌≡◌, ℕ, ◌+◌, ◌==◌, ◌&&◌, inl, inr, ⊎_elim, not, cond, Bool, true, false, List, [], ◌∷◌, length, filter, count_by, Option, Some, None, refl, ap, sym, subst, ◌∙◌, arith, eq-eqb, ne_eqb}
use Rattle.std.specs.List.{list_any}
use Rattle.std.proofs.lemmas.Bool.{cases_eq, eqb-false, eqb-true}
use Rattle.iscsi_outbox_rules.specs.rules.Boxes.{Answer}
use Rattle.iscsi_outbox_rules.specs.rules.Words.{contains}
use Rattle.iscsi_outbox_state.specs.declared.lane.Left.{Left}
use Rattle.iscsi_outbox_state.specs.declared.lane.Undue.{Undue}
use Rattle.iscsi_outbox_state.specs.declared.lane.Standing.{Standing}
use Rattle.iscsi_outbox_state.specs.declared.lane.Standing.TheVariants.{Left as IsLeft, Undue as IsUndue}
use Rattle.iscsi_outbox_state.specs.Lane.{is_command, owes, still_owes, with_left}
use Rattle.iscsi_outbox_steps.specs.Steps.{is_live}
use Rattle.iscsi_tracked.specs.declared.command.Command.{Command}
use Rattle.iscsi_tracked.specs.Tracked.{Tracked, find_place, is_at, with_command}
use Rattle.iscsi_outbox_law.specs.private.Pairs.{EachOf}
use Rattle.iscsi_outbox_law.specs.private.Commands.{ArePlaced}
use Rattle.iscsi_outbox_law.specs.private.Lanes.{AreAnswers, AreLeft, IsInScope, is_aimed_at, is_gone, left_at, left_of}
use Rattle.iscsi_outbox_law.proofs.general.Members.{In, find_in}
use Rattle.iscsi_outbox_law.proofs.commands.LeftOut.{found_there}
use Rattle.iscsi_outbox_law.proofs.commands.TrackedLemmas.{KeepsPlace, at_place, each_map_in, same_place, same_ticket}
use Rattle.iscsi_outbox_law.proofs.commands.TrackedEnds.{others}
use Rattle.iscsi_outbox_law.proofs.commands.Lessening.{IsMine, KeepsAims, aimed_lessened, all_mine, answers_lessened, count_filter, count_in_same, count_none, dropped, lessen, lessen_commands, lessen_counted}

module _ (v : Tracked) (items : List Standing) (left : AreLeft v items) (placed : ArePlaced v) (owing : (d : Command) → In d v.commands → is_live d ≡ false → owes (left_of d) ≡ true) (c : Command) (kept : In c v.commands) (dead : is_live c ≡ false) (change : Left → Left) (keeps : KeepsAims change) where
  found : find_place c.place v ≡ Some c
  found = found_there v c placed kept

  alone : left_at (Some c) ≡ IsLeft (left_of c) ∷ []
  alone = ap (λ (u : Bool). cond u [] (IsLeft (left_of c) ∷ [])) dead

  mine : (x : Standing) → In x items → IsMine v x
  mine = all_mine v items owing left

  -- ---- those that left

  lessened_here : lessen change c.place (IsLeft (left_of c) ∷ []) ≡ cond (owes (change (left_of c))) (IsLeft (change (left_of c)) ∷ []) []
  lessened_here = ap (λ (w : Bool). cond (still_owes (cond w (IsLeft (change (left_of c))) (IsLeft (left_of c)))) (cond w (IsLeft (change (left_of c))) (IsLeft (left_of c)) ∷ []) []) (eq-eqb c.place c.place refl)

  lessened_there : (n : ℕ) → (n ≡ c.place → ⊥) → (x : Option Command) → find_place n v ≡ x → lessen change c.place (left_at x) ≡ left_at x
  lessened_there n apart None is = refl
  lessened_there n apart (Some d) is = by_live (is_live d) refl
    where
      at : In d v.commands × (is_at n d ≡ true)
      at = find_in (is_at n) v.commands d is

      other : (d.place == c.place) ≡ false
      other = ne_eqb d.place c.place (λ same. apart (sym (eqb-true d.place n at.1) ∙ same))

      by_live : (w : Bool) → is_live d ≡ w → lessen change c.place (cond w [] (IsLeft (left_of d) ∷ [])) ≡ cond w [] (IsLeft (left_of d) ∷ [])
      by_live true live = refl
      by_live false live =
          ap (λ (u : Bool). cond (still_owes (cond u (IsLeft (change (left_of d))) (IsLeft (left_of d)))) (cond u (IsLeft (change (left_of d))) (IsLeft (left_of d)) ∷ []) []) other
          ∙ ap (λ (u : Bool). cond u (IsLeft (left_of d) ∷ []) []) (owing d at.0 live)

  lessened_each : (v' : Tracked) → ((n : ℕ) → (n ≡ c.place → ⊥) → find_place n v' ≡ find_place n v) → left_at (find_place c.place v') ≡ cond (owes (change (left_of c))) (IsLeft (change (left_of c)) ∷ []) []
      → (n : ℕ) → filter (is_command n) (lessen change c.place items) ≡ left_at (find_place n v')
  lessened_each v' there here n =
      lessen_commands change keeps c.place n items ∙ ap (lessen change c.place) (left.each n)
      ∙ ⊎_elim
      (λ same. ap (λ k. lessen change c.place (left_at (find_place k v))) same ∙ ap (λ x. lessen change c.place (left_at x)) found ∙ ap (lessen change c.place) alone ∙ lessened_here ∙ sym here ∙ sym (ap (λ k. left_at (find_place k v')) same))
      (λ apart. lessened_there n apart (find_place n v) refl ∙ sym (ap left_at (there n apart)))
      (cases_eq n c.place)

  dropped_is : (x : Standing) → In x items → dropped change keeps c.place x ≡ (is_command c.place x && not (owes (change (left_of c))))
  dropped_is (IsUndue a) at = refl
  dropped_is (IsLeft d) at =
      let k : IsMine v (IsLeft d) = mine (IsLeft d) at in
      elim (d.command == c.place) as (λ w. (d.command == c.place) ≡ w → not (still_owes (cond w (IsLeft (change d)) (IsLeft d))) ≡ (w && not (owes (change (left_of c))))) [
        | true ↦ λ here. (let e : IsLeft d ≡ IsLeft (left_of c) = k.is c.place c here found in let same : d ≡ left_of c = cc in ap (λ (y : Left). not (owes (change y))) same)
        | false ↦ λ there. ap not k.owing
      ] refl

  one_there : count_by (is_command c.place) items ≡ 1
  one_there = count_filter (is_command c.place) items ∙ ap length (left.each c.place ∙ ap left_at found ∙ alone)

  -- it owes something still
  pub stays_left : (v' : Tracked) → owes (change (left_of c)) ≡ true → ((n : ℕ) → (n ≡ c.place → ⊥) → find_place n v' ≡ find_place n v) → left_at (find_place c.place v') ≡ IsLeft (change (left_of c)) ∷ []
      → count_by is_gone v'.commands ≡ count_by is_gone v.commands → AreLeft v' (lessen change c.place items)
  stays_left v' some there here same = record {
    each = lessened_each v' there (here ∙ sym (ap (λ (w : Bool). cond w (IsLeft (change (left_of c)) ∷ []) []) some));
    counted =
        (let e = lessen_counted change keeps c.place items in
        let f : count_by (dropped change keeps c.place) items ≡ 0 =
        count_in_same (dropped change keeps c.place) (λ x. false) items (λ x at. dropped_is x at ∙ ap (λ (w : Bool). is_command c.place x && not w) some ∙ and_no (is_command c.place x)) ∙ count_none items in
        let g = left.counted in omega (arith, e, f, g, same));
  }
    where
      and_no : (w : Bool) → (w && false) ≡ false
      and_no true = refl
      and_no false = refl

  -- it owes nothing more
  pub goes_left : (v' : Tracked) → owes (change (left_of c)) ≡ false → ((n : ℕ) → (n ≡ c.place → ⊥) → find_place n v' ≡ find_place n v) → find_place c.place v' ≡ None
      → count_by is_gone v'.commands + 1 ≡ count_by is_gone v.commands → AreLeft v' (lessen change c.place items)
  goes_left v' none there here fewer = record {
    each = lessened_each v' there (ap left_at here ∙ sym (ap (λ (w : Bool). cond w (IsLeft (change (left_of c)) ∷ []) []) none));
    counted =
        (let e = lessen_counted change keeps c.place items in
        let f : count_by (dropped change keeps c.place) items ≡ count_by (is_command c.place) items =
        count_in_same (dropped change keeps c.place) (is_command c.place) items (λ x at. dropped_is x at ∙ ap (λ (w : Bool). is_command c.place x && not w) none ∙ and_yes (is_command c.place x)) in
        let g = left.counted in let k = one_there in omega (arith, e, f, g, k, fewer));
  }
    where
      and_yes : (w : Bool) → (w && true) ≡ w
      and_yes true = refl
      and_yes false = refl

  -- ---- answers

  -- a command that owes something still stands there as it did
  aims_kept : (d : Command) → In d v.commands → (d.place ≡ c.place → owes (change (left_of c)) ≡ true) → (a : Undue) (before : List Standing) → ((x : Standing) → In x before → IsMine v x)
      → list_any (is_aimed_at a.aim d.place) (lessen change c.place before) ≡ list_any (is_aimed_at a.aim d.place) before
  aims_kept d at some a before good = aimed_lessened change keeps c.place a.aim d.place before owed
    where
      owed : (x : Standing) → In x before → is_command d.place x ≡ true → still_owes (with_left change c.place x) ≡ true
      owed x there is =
          let k : IsMine v x = good x there in
          let same : x ≡ IsLeft (left_of d) = k.is d.place d is (found_there v d placed at) in
          ap (λ y. still_owes (with_left change c.place y)) same ∙ by_place (d.place == c.place) refl (ap still_owes (sym same) ∙ k.owing)
        where
          by_place : (w : Bool) → (d.place == c.place) ≡ w → owes (left_of d) ≡ true → still_owes (cond w (IsLeft (change (left_of d))) (IsLeft (left_of d))) ≡ true
          by_place false other own = own
          by_place true here own =
              let place : d.place ≡ c.place = eqb-true d.place c.place here in
              let e : find_place c.place v ≡ Some d = ap (λ n. find_place n v) (sym place) ∙ found_there v d placed at in
              let f : find_place c.place v ≡ Some c = found in
              let both : d ≡ c = cc in
              ap (λ (y : Command). owes (change (left_of y))) both ∙ some place

  -- it owes something still, and keeps its ticket and its place
  pub answers_stay : (cids : List ℕ) (v' : Tracked) (f : Command → Command) → KeepsPlace f → ((d : Command) → In d v.commands → is_live (at_place f c.place d) ≡ is_live d) → v'.commands ≡ with_command f c.place v.commands → owes (change (left_of c)) ≡ true
      → (answers : List Answer) → AreAnswers cids v [] items answers → AreAnswers cids v' [] (lessen change c.place items) answers
  answers_stay cids v' f fits lives commands some answers h =
      answers_lessened change keeps c.place cids v v' (IsMine v)
      (λ a answer before good k. subst (EachOf (IsInScope (lessen change c.place before) a answer)) (sym commands)
      (each_map_in (IsInScope before a answer) (IsInScope (lessen change c.place before) a answer) (at_place f c.place) v.commands
      (λ d at j live.
      ap (contains answer.out.scope) (same_ticket f fits c.place d) ∙ j (sym (lives d at) ∙ live) ∙ sym (aims_kept d at (λ e. some) a before good)
      ∙ sym (ap (λ n. list_any (is_aimed_at a.aim n) (lessen change c.place before)) (same_place f fits c.place d))) k))
      [] items answers (λ x never. absurd never) mine h

  each_other_in : (P Q : Command → Type 0) (cs : List Command) → ((d : Command) → In d cs → (d.place ≡ c.place → ⊥) → P d → Q d) → EachOf P cs → EachOf Q (others c.place cs)
  each_other_in P Q [] f h = tt
  each_other_in P Q (d ∷ cs) f h =
      let rest : EachOf Q (others c.place cs) = each_other_in P Q cs (λ e at. f e (inr at)) h.1 in
      elim (is_at c.place d) as (λ w. is_at c.place d ≡ w → EachOf Q (cond (not w) (d ∷ others c.place cs) (others c.place cs))) [
        | true ↦ λ here. rest
        | false ↦ λ there. (f d (inl refl) (eqb-false d.place c.place there) h.0, rest)
      ] refl

  -- it owes nothing more, and isn't kept
  pub answers_go : (cids : List ℕ) (v' : Tracked) → v'.commands ≡ others c.place v.commands → (answers : List Answer) → AreAnswers cids v [] items answers → AreAnswers cids v' [] (lessen change c.place items) answers
  answers_go cids v' commands answers h =
      answers_lessened change keeps c.place cids v v' (IsMine v)
      (λ a answer before good k. subst (EachOf (IsInScope (lessen change c.place before) a answer)) (sym commands)
      (each_other_in (IsInScope before a answer) (IsInScope (lessen change c.place before) a answer) v.commands
      (λ d at apart j live. j live ∙ sym (aims_kept d at (λ same. absurd (apart same)) a before good)) k))
      [] items answers (λ x never. absurd never) mine h
