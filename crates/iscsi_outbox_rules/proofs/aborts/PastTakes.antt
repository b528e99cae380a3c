-- Of a command that completed no own PDU is taken any more; and where the item of its completion stands among the deeds.
use Rattle.std.proofs.Common.{◌≡◌, ℕ, zero, suc, ◌⊎◌, inl, inr, ⊎_elim, ◌==◌, ◌+◌, ◌≤◌, ◌&&◌, ◌||◌, not, cond, Bool, true, false, List, [], ◌∷◌, ◌++◌, filter, filter_map, length, Option, Some, None, refl, ap, sym, subst, ◌∙◌, arith, eqb-true}
use Rattle.std.specs.List.{list_any}
use Rattle.std.proofs.lemmas.Bool.{false≢true}
use Rattle.std.proofs.lemmas.List.{append_assoc, append-nil}
use Rattle.std.proofs.lemmas.List.Elements.{filter-append, filter_map-append}
use Rattle.iscsi_rules.specs.declared.effect.Effect.{Effect}
use Rattle.iscsi_rules.proofs.general.BoolLemmas.{and_parts}
use Rattle.iscsi_rules.proofs.general.ListLemmas.{first_itself}
use Rattle.iscsi_outbox_rules.specs.declared.own_pdu.OwnPdu.{OwnPdu}
use Rattle.iscsi_outbox_rules.specs.declared.own_pdu.OwnPdu.TheVariants.{OfCommand, OfConnection}
use Rattle.iscsi_outbox_rules.specs.declared.own_pdu.PutRefusal.{PutRefusal}
use Rattle.iscsi_outbox_rules.specs.declared.own_pdu.PutRefusal.TheVariants.{Unfit, Gone as GoneRefusal}
use Rattle.iscsi_outbox_rules.specs.rules.Calls.{Opening, Call, Takes, Puts, Stops, Nexts, Writes, Hears, Joins, Loses, Clears}
use Rattle.iscsi_outbox_rules.specs.rules.Boxes.{Task, Handed, Box}
use Rattle.iscsi_outbox_rules.specs.rules.Words.{is_live_phase}
use Rattle.iscsi_outbox_rules.specs.rules.Own.{is_fit, live_task, own_conn, put_refusal, refusal_on}
use Rattle.iscsi_outbox_rules.specs.rules.Run.{Put, opened, after_call, after_calls, answered}
use Rattle.iscsi_outbox_rules.specs.promises.Deeds.{Deed, deeds_from, deeds_of, items_in, items_of_call, handed_in, handed_in_deed, FollowsSession}
use Rattle.iscsi_outbox_rules.specs.promises.Scope.{is_taken_out_in, nth}
use Rattle.iscsi_outbox_rules.specs.promises.Order.{own_of, taken_by, is_of_command, own_taken, own_handed}
use Rattle.iscsi_outbox_rules.proofs.general.EachLemmas.{each-first_of}
use Rattle.iscsi_outbox_rules.proofs.general.DeedLemmas.{handed_in-append, items_in-append}
use Rattle.iscsi_outbox_rules.proofs.general.TaskWalks.{is_past_phase}
use Rattle.iscsi_outbox_rules.proofs.commands.TaskRuns.{AreIn}
use Rattle.iscsi_outbox_rules.proofs.commands.TaskFits.{Fits, fits-first, fits-second, fits_all}
use Rattle.iscsi_outbox_rules.proofs.commands.TaskLives.{Lives, lives_call, lives_calls, lives_start}
use Rattle.iscsi_outbox_rules.proofs.commands.LeaveLemmas.{leavings}
use Rattle.iscsi_outbox_rules.proofs.commands.CommandRuns.{handed_of, taken_of}
use Rattle.iscsi_outbox_rules.proofs.order.PlaceTheorem.{Parted, part}

-- ---- of lists

-- where one stands among others, and another one
pub record Later {A : Type 0} (us vs xs ys : List A) (v x : A) : Type 0 where
  pub between : List A
  pub first : xs ≡ us ++ v ∷ between
  pub second : vs ≡ between ++ x ∷ ys

pub in_order : {A : Type 0} (us vs xs ys : List A) (v x : A) → us ++ v ∷ vs ≡ xs ++ x ∷ ys → ((us ≡ xs) × (v ≡ x)) ⊎ (Later us vs xs ys v x ⊎ Later xs ys us vs x v)
in_order [] vs [] ys v x h = inl (refl, cc)
in_order [] vs (y ∷ xs) ys v x h = inr (inl (record { between = xs; first = (let same : v ≡ y = cc in ap (λ z. z ∷ xs) (sym same)); second = cc }))
in_order (u ∷ us) vs [] ys v x h = inr (inr (record { between = us; first = (let same : u ≡ x = cc in ap (λ z. z ∷ us) same); second = cc }))
in_order {A = A} (u ∷ us) vs (y ∷ xs) ys v x h =
    let same : u ≡ y = cc in
    let rest : us ++ v ∷ vs ≡ xs ++ x ∷ ys = cc in
    ⊎_elim (λ (k : (us ≡ xs) × (v ≡ x)). inl (ap (λ zs. u ∷ zs) k.0 ∙ ap (λ z. z ∷ xs) same, k.1))
    (λ either. inr (⊎_elim
    (λ (k : Later us vs xs ys v x). inl (record { between = k.between; first = ap (λ z. z ∷ xs) (sym same) ∙ ap (λ zs. u ∷ zs) k.first; second = k.second }))
    (λ (k : Later xs ys us vs x v). inr (record { between = k.between; first = ap (λ z. z ∷ us) same ∙ ap (λ zs. y ∷ zs) k.first; second = k.second })) either))
    (in_order us vs xs ys v x rest)

-- what stands in one of two lists
pub locate : {A : Type 0} (us vs xs ys : List A) (v : A) → us ++ v ∷ vs ≡ xs ++ ys → ((ws : List A) × (xs ≡ us ++ v ∷ ws)) ⊎ ((zs : List A) × (us ≡ xs ++ zs) × (zs ++ v ∷ vs ≡ ys))
locate us vs [] ys v h = inr (us, refl, h)
locate [] vs (x ∷ xs) ys v h = inl (xs, (let same : v ≡ x = cc in ap (λ z. z ∷ xs) (sym same)))
locate {A = A} (u ∷ us) vs (x ∷ xs) ys v h =
    let same : u ≡ x = cc in
    let rest : us ++ v ∷ vs ≡ xs ++ ys = cc in
    ⊎_elim (λ (k : (ws : List A) × (xs ≡ us ++ v ∷ ws)). inl (k.0, ap (λ z. z ∷ xs) (sym same) ∙ ap (λ zs. u ∷ zs) k.1))
    (λ (k : (zs : List A) × (us ≡ xs ++ zs) × (zs ++ v ∷ vs ≡ ys)). inr (k.0, ap (λ z. z ∷ us) same ∙ ap (λ zs. x ∷ zs) k.1, k.2)) (locate us vs xs ys v rest)

pub nth_high : {A : Type 0} (n : ℕ) (xs : List A) → length xs ≤ n → nth n xs ≡ None
nth_high n [] h = refl
nth_high zero (x ∷ xs) h = absurd (omega (arith, h))
nth_high (suc n) (x ∷ xs) h = nth_high n xs (omega (arith, h))

-- ---- the deed with an item

pub record Split (ds : List Deed) (us : List (List Effect)) (v : List Effect) : Type 0 where
  pub first : List Deed
  pub deed : Deed
  pub more : List Deed
  pub whole : first ++ deed ∷ more ≡ ds
  pub early : List (List Effect)
  pub rest : List (List Effect)
  pub items : items_of_call deed.0 ≡ early ++ v ∷ rest
  pub before : us ≡ items_in first ++ early

pub split_deed : (ds : List Deed) (us vs : List (List Effect)) (v : List Effect) → us ++ v ∷ vs ≡ items_in ds → Split ds us v
split_deed [] [] vs v h = absurd cc
split_deed [] (u ∷ us) vs v h = absurd cc
split_deed (d ∷ ds) us vs v h =
    ⊎_elim
    (λ (k : (ws : List (List Effect)) × (items_of_call d.0 ≡ us ++ v ∷ ws)). record { first = []; deed = d; more = ds; whole = refl; early = us; rest = k.0; items = k.1; before = refl })
    (λ (k : (zs : List (List Effect)) × (us ≡ items_of_call d.0 ++ zs) × (zs ++ v ∷ vs ≡ items_in ds)).
    let s : Split ds k.0 v = split_deed ds k.0 vs v k.2 in
    record {
      first = d ∷ s.first;
      deed = s.deed;
      more = s.more;
      whole = ap (λ es. d ∷ es) s.whole;
      early = s.early;
      rest = s.rest;
      items = s.items;
      before = k.1 ∙ ap (λ zs. items_of_call d.0 ++ zs) s.before ∙ sym (append_assoc (items_of_call d.0) (items_in s.first) s.early);
    }) (locate us vs (items_of_call d.0) (items_in ds) v h)

module _ (t c : ℕ) where
  pub taken-append : (xs ys : List Deed) → taken_of t c (xs ++ ys) ≡ taken_of t c xs ++ taken_of t c ys
  taken-append xs ys = ap (filter (is_of_command t)) (filter_map-append (λ (e : Deed). taken_by e.0 e.1) xs ys) ∙ filter-append (is_of_command t) (own_taken xs) (own_taken ys)

  pub handed-append : (xs ys : List Deed) → handed_of t c (xs ++ ys) ≡ handed_of t c xs ++ handed_of t c ys
  handed-append xs ys =
      let f : ℕ × Handed → Option OwnPdu = λ g. own_of g.1.out.pdu in
      ap (λ gs. filter (is_of_command t) (filter_map f gs)) (handed_in-append xs ys)
      ∙ ap (filter (is_of_command t)) (filter_map-append f (handed_in xs) (handed_in ys)) ∙ filter-append (is_of_command t) (own_handed xs) (own_handed ys)

  -- a deed with items takes no own PDU, and hands nothing out
  pub quiet_deed : (d : Deed) (xs ys : List (List Effect)) (item : List Effect) → items_of_call d.0 ≡ xs ++ item ∷ ys → (taken_of t c (d ∷ []) ≡ []) × (handed_in_deed d ≡ None)
  quiet_deed (call, answer) xs ys item h = by_call call h
    where
      no : [] ≡ xs ++ item ∷ ys → ⊥
      no e = by_list xs e
        where
          by_list : (zs : List (List Effect)) → [] ≡ zs ++ item ∷ ys → ⊥
          by_list [] k = absurd cc
          by_list (z ∷ zs) k = absurd cc

      by_call : (x : Call) → items_of_call x ≡ xs ++ item ∷ ys → (taken_of t c ((x, answer) ∷ []) ≡ []) × (handed_in_deed (x, answer) ≡ None)
      by_call (Takes effects numbers) k = (refl, refl)
      by_call (Puts p) k = absurd (no k)
      by_call (Stops ticket) k = absurd (no k)
      by_call (Nexts conn) k = absurd (no k)
      by_call (Writes conn) k = absurd (no k)
      by_call (Hears conn exp_stat_sn tag) k = absurd (no k)
      by_call (Joins conn stat_sn) k = absurd (no k)
      by_call (Loses conn) k = absurd (no k)
      by_call (Clears unit) k = absurd (no k)

  -- ---- none is taken

  abbrev conn_of : Option Task → Option ℕ
  conn_of x = elim x [ Some y ↦ Some y.conn | None ↦ None ]

  abbrev by_conn : Opening → Box → Option ℕ → Option PutRefusal
  by_conn o b x = elim x [ Some conn ↦ refusal_on o b conn | None ↦ Some GoneRefusal ]

  none_from : (v : Bool) (r : PutRefusal) (x : Option PutRefusal) → cond v (Some r) x ≡ None → x ≡ None
  none_from true r x h = absurd cc
  none_from false r x h = h

  past_refused : (o : Opening) (b : Box) (header : List ℕ) → AreIn is_past_phase t b.tasks → put_refusal o b (OfCommand t header) ≡ None → ⊥
  past_refused o b header past none = by_task (live_task b t) refl
    where
      refused : by_conn o b (own_conn b (OfCommand t header)) ≡ None
      refused = none_from (not (is_fit (OfCommand t header))) Unfit (by_conn o b (own_conn b (OfCommand t header))) none

      not_gone : by_conn o b None ≡ None → ⊥
      not_gone k = cc

      unpast : (v : Bool) → v ≡ true → not v ≡ true → ⊥
      unpast true is isnt = false≢true isnt
      unpast false is isnt = false≢true is

      by_task : (x : Option Task) → live_task b t ≡ x → ⊥
      by_task None is = not_gone (sym (ap (by_conn o b) (ap conn_of is)) ∙ refused)
      by_task (Some x) is =
          let q : Task → Bool = λ y. (y.ticket == t) && is_live_phase y.phase in
          let live = and_parts (x.ticket == t) (is_live_phase x.phase) (first_itself q b.tasks x is) in
          unpast (is_live_phase x.phase) live.1 (each-first_of (λ (y : Task). y.ticket ≡ t → is_past_phase y.phase ≡ true) q b.tasks x is past (eqb-true x.ticket t live.0))

  none_one : (o : Opening) (b : Box) (call : Call) → AreIn is_past_phase t b.tasks → taken_of t c ((call, answered o b call) ∷ []) ≡ []
  none_one o b (Takes effects numbers) past = refl
  none_one o b (Puts (OfCommand ticket header)) past = by_refusal (put_refusal o b (OfCommand ticket header)) refl
    where
      by_refusal : (x : Option PutRefusal) → put_refusal o b (OfCommand ticket header) ≡ x → taken_of t c ((Puts (OfCommand ticket header), Put x) ∷ []) ≡ []
      by_refusal (Some refusal) is = refl
      by_refusal None is =
          elim (ticket == t) as (λ v. (ticket == t) ≡ v → cond v (OfCommand ticket header ∷ []) [] ≡ []) [
            | true ↦ λ same. absurd (past_refused o b header past (subst (λ k. put_refusal o b (OfCommand k header) ≡ None) (eqb-true ticket t same) is))
            | false ↦ λ apart. refl
          ] refl
  none_one o b (Puts (OfConnection conn header)) past = by_refusal (put_refusal o b (OfConnection conn header))
    where
      by_refusal : (x : Option PutRefusal) → taken_of t c ((Puts (OfConnection conn header), Put x) ∷ []) ≡ []
      by_refusal (Some refusal) = refl
      by_refusal None = refl
  none_one o b (Stops ticket) past = refl
  none_one o b (Nexts conn) past = refl
  none_one o b (Writes conn) past = refl
  none_one o b (Hears conn exp_stat_sn tag) past = refl
  none_one o b (Joins conn stat_sn) past = refl
  none_one o b (Loses conn) past = refl
  none_one o b (Clears unit) past = refl

  none_from_calls : (o : Opening) (cs : List Call) (l : ℕ) (out : Bool) (b : Box) → 1 ≤ l → Fits t l (items_in (deeds_from o b cs)) → Lives t l out b.tasks → taken_of t c (deeds_from o b cs) ≡ []
  none_from_calls o [] l out b some fits lives = refl
  none_from_calls o (call ∷ cs) l out b some fits lives =
      let items : List (List Effect) = items_of_call call in
      let later : List Deed = deeds_from o (after_call o b call) cs in
      let more : 1 ≤ l + leavings t items = omega (arith, some) in
      taken-append ((call, answered o b call) ∷ []) later ∙ ap (λ xs. xs ++ taken_of t c later) (none_one o b call (lives.past some))
      ∙ none_from_calls o cs (l + leavings t items) (out || list_any (is_taken_out_in t) items) (after_call o b call) more (fits-second t l items (items_in later) fits) (lives_call t o l out b call (fits-first t l items (items_in later) fits) lives)

  -- behind a completion, or where an abort or a Logout took it out
  pub taken_stays : (o : Opening) (calls : List Call) → FollowsSession o calls → (xs ys rest : List Deed) → (xs ++ ys) ++ rest ≡ deeds_of o calls → 1 ≤ leavings t (items_in xs) → taken_of t c (xs ++ ys) ≡ taken_of t c xs
  taken_stays o calls follows xs ys rest whole some =
      let k : Parted o (opened o) calls xs (ys ++ rest) = part o (opened o) calls xs (ys ++ rest) (sym (append_assoc xs ys rest) ∙ whole) in
      let b : Box = after_calls o (opened o) k.first in
      let first : List (List Effect) = items_in (deeds_of o k.first) in
      let second : List (List Effect) = items_in (deeds_from o b k.second) in
      let same : first ++ second ≡ items_in (deeds_of o calls) =
      ap (λ ds. items_in ds ++ second) (sym k.first_is) ∙ ap (λ ds. items_in xs ++ items_in ds) (sym k.second_is) ∙ sym (items_in-append xs (ys ++ rest)) ∙ ap items_in (sym (append_assoc xs ys rest) ∙ whole) in
      let fits : Fits t 0 (first ++ second) = subst (Fits t 0) (sym same) (fits_all t o calls follows) in
      let lives : Lives t (0 + leavings t first) (list_any (is_taken_out_in t) first) b.tasks = lives_calls t o 0 false (opened o) k.first (fits-first t 0 first second fits) (lives_start t) in
      let many : 1 ≤ 0 + leavings t first = (let z : leavings t (items_in xs) ≡ leavings t first = ap (λ ds. leavings t (items_in ds)) k.first_is in omega (arith, some, z)) in
      let none : taken_of t c (deeds_from o b k.second) ≡ [] = none_from_calls o k.second (0 + leavings t first) (list_any (is_taken_out_in t) first) b many (fits-second t 0 first second fits) lives in
      taken-append xs ys ∙ ap (λ zs. taken_of t c xs ++ zs) (nothing (taken_of t c ys) (taken_of t c rest) (sym (taken-append ys rest) ∙ ap (taken_of t c) k.second_is ∙ none)) ∙ append-nil (taken_of t c xs)
    where
      nothing : (us vs : List OwnPdu) → us ++ vs ≡ [] → us ≡ []
      nothing [] vs h = refl
      nothing (u ∷ us) vs h = absurd cc
