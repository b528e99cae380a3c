-- A command that left owes less: what stands in the lane then.
use Rattle.std.proofs.Common.{◌≡◌, ℕ, suc, ◌+◌, ◌==◌, ◌&&◌, ◌||◌, inl, inr, ⊎_elim, not, cond, Bool, true, false, List, [], ◌∷◌, ◌++◌, length, map, filter, count_by, Option, Some, None, refl, ap, sym, subst, ◌∙◌, arith, eq-eqb, append-nil}
use Rattle.std.specs.List.{list_any}
use Rattle.std.proofs.lemmas.Bool.{eqb-true, false≢true, true≢false}
use Rattle.std.proofs.lemmas.List.{map-append}
use Rattle.std.proofs.lemmas.List.Elements.{filter-append}
use Rattle.iscsi_arrivals.proofs.CountLemmas.{count-cons}
use Rattle.iscsi_outbox_rules.specs.rules.Boxes.{Answer}
use Rattle.iscsi_outbox_state.specs.declared.lane.Aim.{Aim}
use Rattle.iscsi_outbox_state.specs.declared.lane.Left.{Left}
use Rattle.iscsi_outbox_state.specs.declared.lane.Undue.{Undue}
use Rattle.iscsi_outbox_state.specs.declared.lane.Standing.{Standing}
use Rattle.iscsi_outbox_state.specs.declared.lane.Standing.TheVariants.{Left as IsLeft, Undue as IsUndue}
use Rattle.iscsi_outbox_state.specs.Lane.{aims_at, is_command, is_left, owes, still_owes, with_left}
use Rattle.iscsi_outbox_steps.specs.Steps.{is_live}
use Rattle.iscsi_tracked.specs.declared.command.Command.{Command}
use Rattle.iscsi_tracked.specs.Tracked.{Tracked, find_place, is_at}
use Rattle.iscsi_outbox_law.specs.private.Pairs.{EachOf}
use Rattle.iscsi_outbox_law.specs.private.Lanes.{AreAnswers, AreLeft, IsInScope, is_aimed_at, left_at, left_of}
use Rattle.iscsi_outbox_law.proofs.general.Members.{In, filter_in, find_in}

-- what changes of a command that left is what it owes
pub record KeepsAims (change : Left → Left) : Type 0 where
  pub command : (d : Left) → (change d).command ≡ d.command
  pub aims : (aim : Aim) (d : Left) → aims_at aim (change d) ≡ aims_at aim d

abbrev pub lessen : (Left → Left) → ℕ → List Standing → List Standing
lessen change place items = filter still_owes (map (with_left change place) items)

pub count_in_same : {A : Type 0} (p q : A → Bool) (xs : List A) → ((x : A) → In x xs → p x ≡ q x) → count_by p xs ≡ count_by q xs
count_in_same p q [] same = refl
count_in_same p q (x ∷ xs) same =
    count-cons p x xs ∙ ap (λ (v : Bool). cond v 1 0 + count_by p xs) (same x (inl refl)) ∙ ap (λ n. cond (q x) 1 0 + n) (count_in_same p q xs (λ y at. same y (inr at))) ∙ sym (count-cons q x xs)

pub count_filter : {A : Type 0} (p : A → Bool) (xs : List A) → count_by p xs ≡ length (filter p xs)
count_filter p [] = refl
count_filter p (x ∷ xs) =
    let rest = count_filter p xs in
    count-cons p x xs ∙ elim (p x) as (λ v. cond v 1 0 + count_by p xs ≡ length (cond v (x ∷ filter p xs) (filter p xs))) [
      | true ↦ (let z : 1 + count_by p xs ≡ suc (length (filter p xs)) = omega (arith, rest) in z)
      | false ↦ (let z : 0 + count_by p xs ≡ length (filter p xs) = omega (arith, rest) in z)
    ]

pub count_none : {A : Type 0} (xs : List A) → count_by (λ (x : A). false) xs ≡ 0
count_none [] = refl
count_none (x ∷ xs) = count-cons (λ y. false) x xs ∙ (let rest = count_none xs in let z : 0 + count_by (λ y. false) xs ≡ 0 = omega (arith, rest) in z)

module _ (change : Left → Left) (keeps : KeepsAims change) (place : ℕ) where
  command_kept : (n : ℕ) (x : Standing) → is_command n (with_left change place x) ≡ is_command n x
  command_kept n (IsUndue a) = refl
  command_kept n (IsLeft d) = elim (d.command == place) as (λ v. is_command n (cond v (IsLeft (change d)) (IsLeft d)) ≡ (d.command == n)) [ true ↦ ap (λ k. k == n) (keeps.command d) | false ↦ refl ]

  left_kept : (x : Standing) → is_left (with_left change place x) ≡ is_left x
  left_kept (IsUndue a) = refl
  left_kept (IsLeft d) = elim (d.command == place) as (λ v. is_left (cond v (IsLeft (change d)) (IsLeft d)) ≡ true) [ true ↦ refl | false ↦ refl ]

  aimed_kept : (aim : Aim) (n : ℕ) (x : Standing) → is_aimed_at aim n (with_left change place x) ≡ is_aimed_at aim n x
  aimed_kept aim n (IsUndue a) = refl
  aimed_kept aim n (IsLeft d) = elim (d.command == place) as (λ v. is_aimed_at aim n (cond v (IsLeft (change d)) (IsLeft d)) ≡ (d.command == n && aims_at aim d)) [
    | true ↦ ap (λ k. k == n && aims_at aim (change d)) (keeps.command d) ∙ ap (λ v. d.command == n && v) (keeps.aims aim d)
    | false ↦ refl
  ]

  -- those of one command, lessened
  pub lessen_commands : (n : ℕ) (items : List Standing) → filter (is_command n) (lessen change place items) ≡ lessen change place (filter (is_command n) items)
  lessen_commands n [] = refl
  lessen_commands n (x ∷ items) =
      let rest = lessen_commands n items in
      let y : Standing = with_left change place x in
      elim (still_owes (with_left change place x)) as (λ v. still_owes (with_left change place x) ≡ v → filter (is_command n) (cond v (with_left change place x ∷ lessen change place items) (lessen change place items)) ≡ lessen change place (cond (is_command n x) (x ∷ filter (is_command n) items) (filter (is_command n) items))) [
        | true ↦ λ is.
            ap (λ (w : Bool). cond w (with_left change place x ∷ filter (is_command n) (lessen change place items)) (filter (is_command n) (lessen change place items))) (command_kept n x)
            ∙ elim (is_command n x) as (λ w. cond w (with_left change place x ∷ filter (is_command n) (lessen change place items)) (filter (is_command n) (lessen change place items)) ≡ lessen change place (cond w (x ∷ filter (is_command n) items) (filter (is_command n) items))) [
              | true ↦ ap (λ xs. with_left change place x ∷ xs) rest ∙ sym (ap (λ (w : Bool). cond w (with_left change place x ∷ lessen change place (filter (is_command n) items)) (lessen change place (filter (is_command n) items))) is)
              | false ↦ rest
            ]
        | false ↦ λ isnt.
            elim (is_command n x) as (λ w. filter (is_command n) (lessen change place items) ≡ lessen change place (cond w (x ∷ filter (is_command n) items) (filter (is_command n) items))) [
              | true ↦ rest ∙ sym (ap (λ (w : Bool). cond w (with_left change place x ∷ lessen change place (filter (is_command n) items)) (lessen change place (filter (is_command n) items))) isnt)
              | false ↦ rest
            ]
      ] refl

  -- those that are dropped
  abbrev pub dropped : Standing → Bool
  dropped x = is_left x && not (still_owes (with_left change place x))

  pub lessen_counted : (items : List Standing) → count_by is_left (lessen change place items) + count_by dropped items ≡ count_by is_left items
  lessen_counted [] = refl
  lessen_counted (x ∷ items) =
      let rest = lessen_counted items in
      let whole = count-cons is_left x items in
      let drops = count-cons dropped x items in
      let kind = ap {B = ℕ} (λ (w : Bool). cond w 1 0) (left_kept x) in
      elim (still_owes (with_left change place x)) as (λ v. still_owes (with_left change place x) ≡ v → count_by is_left (cond v (with_left change place x ∷ lessen change place items) (lessen change place items)) + count_by dropped (x ∷ items) ≡ count_by is_left (x ∷ items)) [
        | true ↦ λ is.
            (let e = count-cons is_left (with_left change place x) (lessen change place items) in
            let f : cond {A = ℕ} (is_left x && not (still_owes (with_left change place x))) 1 0 ≡ 0 = ap {B = ℕ} (λ (w : Bool). cond (is_left x && not w) 1 0) is ∙ no_more (is_left x) in
            omega (arith, rest, whole, drops, kind, e, f))
        | false ↦ λ isnt.
            (let f : cond {A = ℕ} (is_left x && not (still_owes (with_left change place x))) 1 0 ≡ cond (is_left x) 1 0 = ap {B = ℕ} (λ (w : Bool). cond (is_left x && not w) 1 0) isnt ∙ all_more (is_left x) in
            omega (arith, rest, whole, drops, f))
      ] refl
    where
      no_more : (v : Bool) → cond {A = ℕ} (v && false) 1 0 ≡ 0
      no_more true = refl
      no_more false = refl

      all_more : (v : Bool) → cond {A = ℕ} (v && true) 1 0 ≡ cond v 1 0
      all_more true = refl
      all_more false = refl

  -- ---- answers

  pub aimed_lessened : (aim : Aim) (n : ℕ) (items : List Standing) → ((x : Standing) → In x items → is_command n x ≡ true → still_owes (with_left change place x) ≡ true)
      → list_any (is_aimed_at aim n) (lessen change place items) ≡ list_any (is_aimed_at aim n) items
  aimed_lessened aim n [] owing = refl
  aimed_lessened aim n (x ∷ items) owing =
      let rest = aimed_lessened aim n items (λ y at. owing y (inr at)) in
      elim (still_owes (with_left change place x)) as (λ v. still_owes (with_left change place x) ≡ v → list_any (is_aimed_at aim n) (cond v (with_left change place x ∷ lessen change place items) (lessen change place items)) ≡ (is_aimed_at aim n x || list_any (is_aimed_at aim n) items)) [
        | true ↦ λ is. ap (λ (w : Bool). w || list_any (is_aimed_at aim n) (lessen change place items)) (aimed_kept aim n x) ∙ ap (λ (w : Bool). is_aimed_at aim n x || w) rest
        | false ↦ λ isnt. rest ∙ sym (ap (λ (w : Bool). w || list_any (is_aimed_at aim n) items) (unaimed x (λ is. true≢false (sym (owing x (inl refl) is) ∙ isnt))))
      ] refl
    where
      unaimed : (y : Standing) → (is_command n y ≡ true → ⊥) → is_aimed_at aim n y ≡ false
      unaimed (IsUndue a) other = refl
      unaimed (IsLeft d) other = ap (λ (w : Bool). w && aims_at aim d) (by_test (d.command == n) refl)
        where
          by_test : (w : Bool) → (d.command == n) ≡ w → (d.command == n) ≡ false
          by_test false is = is
          by_test true is = absurd (other is)

  lessen_push : (before : List Standing) (x : Standing) → lessen change place (before ++ x ∷ []) ≡ lessen change place before ++ cond (still_owes (with_left change place x)) (with_left change place x ∷ []) []
  lessen_push before x = ap (filter still_owes) (map-append (with_left change place) before (x ∷ [])) ∙ filter-append still_owes (map (with_left change place) before) (with_left change place x ∷ [])

  with_left_is : (d : Left) → with_left change place (IsLeft d) ≡ IsLeft (cond (d.command == place) (change d) d)
  with_left_is d = elim (d.command == place) as (λ w. cond w (IsLeft (change d)) (IsLeft d) ≡ IsLeft (cond w (change d) d)) [ true ↦ refl | false ↦ refl ]

  in_push : (P : Standing → Type 0) (before : List Standing) (y : Standing) → ((x : Standing) → In x before → P x) → P y → (x : Standing) → In x (before ++ y ∷ []) → P x
  in_push P [] y f k x at = ⊎_elim (λ same. subst P (sym same) k) (λ never. absurd never) at
  in_push P (z ∷ before) y f k x at = ⊎_elim (λ same. f x (inl same)) (λ later. in_push P before y (λ w there. f w (inr there)) k x later) at

  -- the commands that are kept still, with what stands before each answer
  module _ (cids : List ℕ) (v v' : Tracked) (Good : Standing → Type 0) (scopes : (a : Undue) (answer : Answer) (before : List Standing) → ((x : Standing) → In x before → Good x) → EachOf (IsInScope before a answer) v.commands → EachOf (IsInScope (lessen change place before) a answer) v'.commands) where
    one_left : (front : List Standing) (e : Left) (y : Standing) (w : Bool) (items : List Standing) (answers : List Answer) → IsLeft e ≡ y → AreAnswers cids v' (front ++ cond w (y ∷ []) []) items answers → AreAnswers cids v' front (cond w (y ∷ items) items) answers
    one_left front e y w items answers is h =
        subst (λ z. AreAnswers cids v' (front ++ cond w (z ∷ []) []) items answers → AreAnswers cids v' front (cond w (z ∷ items) items) answers) is
        (elim w as (λ u. AreAnswers cids v' (front ++ cond u (IsLeft e ∷ []) []) items answers → AreAnswers cids v' front (cond u (IsLeft e ∷ items) items) answers) [
          | true ↦ λ k. k
          | false ↦ λ k. subst (λ xs. AreAnswers cids v' xs items answers) (append-nil front) k
        ]) h

    pub answers_lessened : (before items : List Standing) (answers : List Answer) → ((x : Standing) → In x before → Good x) → ((x : Standing) → In x items → Good x) → AreAnswers cids v before items answers → AreAnswers cids v' (lessen change place before) (lessen change place items) answers
    answers_lessened before [] [] good more h = tt
    answers_lessened before [] (answer ∷ answers) good more h = absurd h
    answers_lessened before (IsLeft d ∷ items) answers good more h =
        let rest : AreAnswers cids v' (lessen change place (before ++ IsLeft d ∷ [])) (lessen change place items) answers =
        answers_lessened (before ++ IsLeft d ∷ []) items answers (in_push Good before (IsLeft d) good (more (IsLeft d) (inl refl))) (λ x at. more x (inr at)) h in
        one_left (lessen change place before) (cond (d.command == place) (change d) d) (with_left change place (IsLeft d)) (still_owes (with_left change place (IsLeft d))) (lessen change place items) answers (sym (with_left_is d))
        (subst (λ xs. AreAnswers cids v' xs (lessen change place items) answers) (lessen_push before (IsLeft d)) rest)
    answers_lessened before (IsUndue a ∷ items) [] good more h = absurd h
    answers_lessened before (IsUndue a ∷ items) (answer ∷ answers) good more h =
        let rest : AreAnswers cids v' (lessen change place (before ++ IsUndue a ∷ [])) (lessen change place items) answers =
        answers_lessened (before ++ IsUndue a ∷ []) items answers (in_push Good before (IsUndue a) good (more (IsUndue a) (inl refl))) (λ x at. more x (inr at)) h.1 in (
          record {
            pdu = h.0.pdu;
            sent = h.0.sent;
            conn = h.0.conn;
            aim = h.0.aim;
            takes = h.0.takes;
            fenced = h.0.fenced;
            numbered = h.0.numbered;
            ends = h.0.ends;
            ticket = h.0.ticket;
            uncleared = h.0.uncleared;
            scope = scopes a answer before good h.0.scope;
          },
          subst (λ xs. AreAnswers cids v' xs (lessen change place items) answers) (lessen_push before (IsUndue a)) rest,
        )

-- ---- in the lane of what stands

-- a command that left stands in the lane as it is, and owes
pub record IsMine (v : Tracked) (x : Standing) : Type 0 where
  pub owing : still_owes x ≡ true
  pub is : (n : ℕ) (c : Command) → is_command n x ≡ true → find_place n v ≡ Some c → x ≡ IsLeft (left_of c)

pub all_mine : (v : Tracked) (items : List Standing) → ((c : Command) → In c v.commands → is_live c ≡ false → owes (left_of c) ≡ true) → AreLeft v items → (x : Standing) → In x items → IsMine v x
all_mine v items owing left (IsUndue a) at = record { owing = refl; is = λ n c never found. absurd (false≢true never) }
all_mine v items owing left (IsLeft d) at = by_found (find_place d.command v) refl (subst (λ (xs : List Standing). In (IsLeft d) xs) (left.each d.command) (filter_in (is_command d.command) items (IsLeft d) at (eq-eqb d.command d.command refl)))
  where
    by_live : (c : Command) (w : Bool) → find_place d.command v ≡ Some c → is_live c ≡ w → In (IsLeft d) (cond w [] (IsLeft (left_of c) ∷ [])) → IsMine v (IsLeft d)
    by_live c true found live k = absurd k
    by_live c false found live k = ⊎_elim
        (λ same.
        let it : d ≡ left_of c = cc in
        record {
          owing = ap owes it ∙ owing c (find_in (is_at d.command) v.commands c found).0 live;
          is = λ n e here there.
              let place : d.command ≡ n = eqb-true d.command n here in
              let e2 : find_place d.command v ≡ Some e = ap (λ k. find_place k v) place ∙ there in
              let both : c ≡ e = cc in ap IsLeft it ∙ ap (λ (x : Command). IsLeft (left_of x)) both;
        })
        (λ never. absurd never) k

    by_found : (x : Option Command) → find_place d.command v ≡ x → In (IsLeft d) (left_at x) → IsMine v (IsLeft d)
    by_found None found k = absurd k
    by_found (Some c) found k = by_live c (is_live c) found refl k
