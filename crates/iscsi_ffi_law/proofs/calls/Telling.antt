-- Who is told to be ready, and to be closed, at the end of a call: the same by the steps as by the rules.
use Rattle.std.proofs.Common.{◌≡◌, ℕ, ◌+◌, ◌≤◌, ◌==◌, ◌&&◌, ◌||◌, not, cond, Bool, true, false, List, [], ◌∷◌, ◌++◌, length, map, filter, get_or, set, refl, ap, sym, subst, ◌∙◌, arith, lt-ltb, length-append, append_assoc}
use Rattle.std.proofs.lemmas.List.{append-nil}
use Rattle.std.proofs.lemmas.Bool.{eqb-true, eq-eqb, or_right}
use Rattle.std.proofs.lemmas.List.Folds.{list_any-append}
use Rattle.iscsi_outbox_rules.specs.rules.Words.{contains}
use Rattle.iscsi_outbox_rules.specs.rules.Handing as box
use Rattle.iscsi_outbox_steps.specs.Steps.{given}
use Rattle.iscsi_outbox_law.specs.rules.Said.{given_said}
use Rattle.iscsi_ffi_rules.specs.declared.action.Action.{Action}
use Rattle.iscsi_ffi_rules.specs.declared.action.Action.TheVariants.{Ready, Close}
use Rattle.iscsi_ffi_rules.specs.rules.Run.{cids}
use Rattle.iscsi_ffi_steps.specs.State.{State}
use Rattle.iscsi_ffi_steps.specs.Walk.{Doing, with_room}
use Rattle.iscsi_ffi_steps.specs.Steps.{close_each, close_on, gives, gives_no_more, tell_each, tell_on}

get_or-here : (xs ys : List Bool) (y : Bool) → get_or (xs ++ y ∷ ys) (length xs) false ≡ y
get_or-here [] ys y = refl
get_or-here (x ∷ xs) ys y = get_or-here xs ys y

set-here : (xs ys : List Bool) (y z : Bool) → set (xs ++ y ∷ ys) (length xs) z ≡ xs ++ z ∷ ys
set-here [] ys y z = refl
set-here (x ∷ xs) ys y z = ap (λ (bs : List Bool). x ∷ bs) (set-here xs ys y z)

or_yes : (v : Bool) → (v || true) ≡ true
or_yes true = refl
or_yes false = refl

or_no : (v : Bool) → (v || false) ≡ v
or_no true = refl
or_no false = refl

-- ---- one connection after the other

module _ {D : Type 0} (put : List Bool → List Action → D) (on : ℕ → ℕ → D → D) (each : ℕ → List ℕ → D → D) (room : ℕ) (f : ℕ → Bool) (word : ℕ → Action)
    (nothing : (conn : ℕ) (d : D) → each conn [] d ≡ d) (more : (conn cid : ℕ) (rest : List ℕ) (d : D) → each conn (cid ∷ rest) d ≡ each (conn + 1) rest (on conn cid d))
    (one : (conn cid : ℕ) (bs : List Bool) (acts : List Action) → on conn cid (put bs acts) ≡ cond (f cid && not (get_or bs conn false)) (put (set bs conn true) (with_room room acts (word cid))) (put bs acts))
    (before : List ℕ) where
  abbrev is_new : ℕ → Bool
  is_new cid = f cid && not (contains before cid)

  abbrev is_after : ℕ → Bool
  is_after cid = contains before cid || is_new cid

  told_each : (rest : List ℕ) (flags : List Bool) (acts : List Action) (conn : ℕ) → length flags ≡ conn → length acts + length rest ≤ room
      → each conn rest (put (flags ++ map (contains before) rest) acts) ≡ put (flags ++ map is_after rest) (acts ++ map word (filter is_new rest))
  told_each [] flags acts conn long short = nothing conn (put (flags ++ []) acts) ∙ ap (put (flags ++ [])) (sym (append-nil acts))
  told_each (cid ∷ rest) flags acts conn long short = more conn cid rest (put (flags ++ contains before cid ∷ map (contains before) rest) acts) ∙ by_new (told_each rest) (is_new cid) refl
    where
      x : Bool
      x = contains before cid

      others : List Bool
      others = map (contains before) rest

      here : on conn cid (put (flags ++ contains before cid ∷ map (contains before) rest) acts)
          ≡ cond (f cid && not (contains before cid)) (put (flags ++ true ∷ map (contains before) rest) (with_room room acts (word cid))) (put (flags ++ contains before cid ∷ map (contains before) rest) acts)
      here =
          let at : get_or (flags ++ x ∷ others) conn false ≡ x = subst (λ k. get_or (flags ++ x ∷ others) k false ≡ x) long (get_or-here flags others x) in
          let with_it : set (flags ++ x ∷ others) conn true ≡ flags ++ true ∷ others = subst (λ k. set (flags ++ x ∷ others) k true ≡ flags ++ true ∷ others) long (set-here flags others x true) in
          one conn cid (flags ++ x ∷ others) acts
          ∙ ap (λ y. cond (f cid && not y) (put (set (flags ++ x ∷ others) conn true) (with_room room acts (word cid))) (put (flags ++ x ∷ others) acts)) at
          ∙ ap (λ bs. cond (f cid && not x) (put bs (with_room room acts (word cid))) (put (flags ++ x ∷ others) acts)) with_it

      room_for : with_room room acts (word cid) ≡ acts ++ word cid ∷ []
      room_for = ap (λ v. cond v (acts ++ word cid ∷ []) acts) (lt-ltb (length acts) room (omega (arith, short)))

      by_new : ((marks : List Bool) (done : List Action) (n : ℕ) → length marks ≡ n → length done + length rest ≤ room
          → each n rest (put (marks ++ map (contains before) rest) done) ≡ put (marks ++ map is_after rest) (done ++ map word (filter is_new rest))) → (v : Bool) → (f cid && not (contains before cid)) ≡ v
          → each (conn + 1) rest (on conn cid (put (flags ++ contains before cid ∷ map (contains before) rest) acts))
          ≡ put (flags ++ (contains before cid || v) ∷ map is_after rest) (acts ++ map word (cond v (cid ∷ filter is_new rest) (filter is_new rest)))
      by_new later true is =
          ap (each (conn + 1) rest) (here ∙ ap (λ v. cond v (put (flags ++ true ∷ others) (with_room room acts (word cid))) (put (flags ++ x ∷ others) acts)) is ∙ ap (put (flags ++ true ∷ others)) room_for)
          ∙ ap (λ bs. each (conn + 1) rest (put bs (acts ++ word cid ∷ []))) (sym (append_assoc flags (true ∷ []) others))
          ∙ later (flags ++ true ∷ []) (acts ++ word cid ∷ []) (conn + 1) (omega (arith, long, length-append flags (true ∷ []))) (omega (arith, short, length-append acts (word cid ∷ [])))
          ∙ ap (λ bs. put bs ((acts ++ word cid ∷ []) ++ map word (filter is_new rest))) (append_assoc flags (true ∷ []) (map is_after rest) ∙ ap (λ v. flags ++ v ∷ map is_after rest) (sym (or_yes x)))
          ∙ ap (put (flags ++ (x || true) ∷ map is_after rest)) (append_assoc acts (word cid ∷ []) (map word (filter is_new rest)))
      by_new later false is =
          ap (each (conn + 1) rest) (here ∙ ap (λ v. cond v (put (flags ++ true ∷ others) (with_room room acts (word cid))) (put (flags ++ x ∷ others) acts)) is)
          ∙ ap (λ bs. each (conn + 1) rest (put bs acts)) (sym (append_assoc flags (x ∷ []) others))
          ∙ later (flags ++ x ∷ []) acts (conn + 1) (omega (arith, long, length-append flags (x ∷ []))) (omega (arith, short))
          ∙ ap (λ bs. put bs (acts ++ map word (filter is_new rest))) (append_assoc flags (x ∷ []) (map is_after rest) ∙ ap (λ v. flags ++ v ∷ map is_after rest) (sym (or_no x)))

-- ---- who was told

here_too : (q : ℕ → Bool) (cids : List ℕ) (cid : ℕ) → contains (filter q cids) cid ≡ (contains cids cid && q cid)
here_too q [] cid = refl
here_too q (c ∷ cids) cid = by_tests (here_too q cids cid) (q c) refl (c == cid) refl
  where
    by_tests : contains (filter q cids) cid ≡ (contains cids cid && q cid) → (v : Bool) → q c ≡ v → (w : Bool) → (c == cid) ≡ w → contains (cond v (c ∷ filter q cids) (filter q cids)) cid ≡ ((w || contains cids cid) && q cid)
    by_tests later true is true same = ap (λ w. w || contains (filter q cids) cid) same ∙ sym is ∙ ap q (eqb-true c cid same)
    by_tests later true is false same = ap (λ w. w || contains (filter q cids) cid) same ∙ later
    by_tests later false is true same = later ∙ ap (λ w. contains cids cid && w) (sym none) ∙ and_no (contains cids cid) ∙ none
      where
        none : false ≡ q cid
        none = sym is ∙ ap q (eqb-true c cid same)

        and_no : (w : Bool) → (w && false) ≡ false
        and_no true = refl
        and_no false = refl
    by_tests later false is false same = later

map_members : (f g : ℕ → Bool) (all part : List ℕ) → ((cid : ℕ) → contains part cid ≡ true → contains all cid ≡ true) → ((cid : ℕ) → contains all cid ≡ true → f cid ≡ g cid) → map f part ≡ map g part
map_members f g all [] inside same = refl
map_members f g all (c ∷ part) inside same =
    ap (λ b. b ∷ map f part) (same c (inside c (ap (λ w. w || contains part c) (eq-eqb c c refl))))
    ∙ ap (λ bs. g c ∷ bs) (map_members f g all part (λ cid is. inside cid (or_right (c == cid) (contains part cid) is)) same)

-- those that were told before, and those that are told now
pub flags_after : (f : ℕ → Bool) (before cids : List ℕ) → map (λ cid. contains before cid || (f cid && not (contains before cid))) cids ≡ map (contains (before ++ filter (λ cid. f cid && not (contains before cid)) cids)) cids
flags_after f before cids =
    map_members (λ cid. contains before cid || is_fresh cid) (contains (before ++ filter is_fresh cids)) cids cids (λ cid is. is)
    (λ cid is. sym (list_any-append (λ k. k == cid) before (filter is_fresh cids) ∙ ap (λ w. contains before cid || w) (here_too is_fresh cids cid ∙ ap (λ w. w && is_fresh cid) is)))
  where
    is_fresh : ℕ → Bool
    is_fresh cid = f cid && not (contains before cid)

-- ---- at the end of a call

abbrev awake_at : State → List Action → List Bool → List Action → Doing
awake_at s forgets awake actions = record { state = record s { awake = awake }; actions = actions; forgets = forgets }

abbrev over_at : State → List Action → List Bool → List Action → Doing
over_at s forgets over actions = record { state = record s { over = over }; actions = actions; forgets = forgets }

abbrev pub gives_to : State → ℕ → Bool
gives_to s cid = gives (given cid s.outbox)

abbrev pub is_over_to : State → ℕ → Bool
is_over_to s cid = gives_no_more (given cid s.outbox)

module _ (s : State) (forgets : List Action) (before : List ℕ) (cs : List ℕ) (acts : List Action) where
  pub told_ready : s.awake ≡ map (contains before) cs → length acts + length cs ≤ s.room
      → tell_each 0 cs (record { state = s; actions = acts; forgets = forgets })
      ≡ record {
        state = record s { awake = map (λ cid. contains before cid || (gives_to s cid && not (contains before cid))) cs };
        actions = acts ++ map (λ cid. Ready cid) (filter (λ cid. gives_to s cid && not (contains before cid)) cs);
        forgets = forgets;
      }
  told_ready are short =
      ap (λ bs. tell_each 0 cs (awake_at s forgets bs acts)) are
      ∙ told_each (awake_at s forgets) tell_on tell_each s.room (gives_to s) (λ cid. Ready cid) (λ conn d. refl) (λ conn cid rest d. refl) one before cs [] acts 0 refl short
    where
      one : (conn cid : ℕ) (bs : List Bool) (more : List Action) → tell_on conn cid (awake_at s forgets bs more)
          ≡ cond (gives_to s cid && not (get_or bs conn false)) (awake_at s forgets (set bs conn true) (with_room s.room more (Ready cid))) (awake_at s forgets bs more)
      one conn cid bs more = refl

  pub told_over : s.over ≡ map (contains before) cs → length acts + length cs ≤ s.room
      → close_each 0 cs (record { state = s; actions = acts; forgets = forgets })
      ≡ record {
        state = record s { over = map (λ cid. contains before cid || (is_over_to s cid && not (contains before cid))) cs };
        actions = acts ++ map (λ cid. Close cid) (filter (λ cid. is_over_to s cid && not (contains before cid)) cs);
        forgets = forgets;
      }
  told_over are short =
      ap (λ bs. close_each 0 cs (over_at s forgets bs acts)) are
      ∙ told_each (over_at s forgets) close_on close_each s.room (is_over_to s) (λ cid. Close cid) (λ conn d. refl) (λ conn cid rest d. refl) one before cs [] acts 0 refl short
    where
      one : (conn cid : ℕ) (bs : List Bool) (more : List Action) → close_on conn cid (over_at s forgets bs more)
          ≡ cond (is_over_to s cid && not (get_or bs conn false)) (over_at s forgets (set bs conn true) (with_room s.room more (Close cid))) (over_at s forgets bs more)
      one conn cid bs more = refl

-- ---- by the rules

pub gives_alike : (g : box.Given) → gives (given_said g) ≡ elim g [ box.Hands h ↦ true | box.Nothing ↦ false | box.IsOver ↦ false ]
gives_alike (box.Hands h) = refl
gives_alike box.Nothing = refl
gives_alike box.IsOver = refl

pub over_alike : (g : box.Given) → gives_no_more (given_said g) ≡ elim g [ box.Hands h ↦ false | box.Nothing ↦ false | box.IsOver ↦ true ]
over_alike (box.Hands h) = refl
over_alike box.Nothing = refl
over_alike box.IsOver = refl
