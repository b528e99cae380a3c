-- A call that takes no event adds none to the commands that are live or owe: what is under way grows only by what is handed out, which is
-- of no command that left.
use Rattle.std.proofs.Common.{◌≡◌, ℕ, zero, suc, ◌+◌, ◌≤◌, ◌==◌, ◌&&◌, ◌||◌, not, cond, Bool, true, false, List, [], ◌∷◌, ◌++◌, map, drop, length, max, refl, ap, sym, ◌∙◌, arith, nat_lt}
use Rattle.std.specs.List.{list_any}
use Rattle.std.proofs.lemmas.Bool.{cond_both, false≢true}
use Rattle.iscsi_rules.proofs.general.BoolLemmas.{or_first, or_second}
use Rattle.iscsi_rules.proofs.general.CountLemmas.{one, count-cons}
use Rattle.iscsi_outbox_rules.specs.rules.Calls.{Opening}
use Rattle.iscsi_outbox_rules.specs.rules.Boxes.{Phase, Dormant, Fresh, Started, Completed, Running, Gone, Task, Outgoing, Handed, Link, Box}
use Rattle.iscsi_outbox_rules.specs.rules.Words.{is_left_phase, is_of, is_open, looks_for_arrival, unwritten, unarrived, has_under_way}
use Rattle.iscsi_outbox_rules.specs.rules.Queues.{at_link}
use Rattle.iscsi_outbox_rules.specs.rules.Handing.{is_from_queue, taken_from, handed_as, after_given}
use Rattle.iscsi_outbox_rules.specs.rules.Run.{one_written, arrived_by_stat_sn, arrived_by_ping, link_heard, link_joined, link_lost}
use Rattle.iscsi_outbox_rules.proofs.general.EachLemmas.{EachOf}
use Rattle.iscsi_outbox_rules.proofs.room.RoomOwing.{weighs, weight}

-- ---- the last of a list

module _ (p : Handed → Bool) where
  any_dropped : (m : ℕ) (xs : List Handed) → list_any p (drop m xs) ≡ true → list_any p xs ≡ true
  any_dropped zero xs h = h
  any_dropped (suc m) [] h = h
  any_dropped (suc m) (x ∷ xs) h = or_second (p x) (list_any p xs) (any_dropped m xs h)

  any_drop : (n m : ℕ) (xs : List Handed) → n ≤ m → list_any p (drop m xs) ≡ true → list_any p (drop n xs) ≡ true
  any_drop zero m xs le h = any_dropped m xs h
  any_drop (suc n) zero xs le h = absurd (omega (arith, le))
  any_drop (suc n) (suc m) [] le h = h
  any_drop (suc n) (suc m) (x ∷ xs) le h = any_drop n m xs (omega (arith, le)) h

  -- with one more
  any_push : (n : ℕ) (xs : List Handed) (x : Handed) → p x ≡ false → list_any p (drop n (xs ++ x ∷ [])) ≡ true → list_any p (drop n xs) ≡ true
  any_push zero [] x none h = sym (ap (λ v. v || false) none) ∙ h
  any_push zero (y ∷ xs) x none h =
      elim (p y) as (λ v. (v || list_any p (xs ++ x ∷ [])) ≡ true → (v || list_any p xs) ≡ true) [
        | true ↦ λ k. refl
        | false ↦ λ k. any_push zero xs x none k
      ] h
  any_push (suc n) [] x none h = absurd (false≢true (sym (nothing n) ∙ h))
    where
      nothing : (m : ℕ) → list_any p (drop m []) ≡ false
      nothing zero = refl
      nothing (suc m) = refl
  any_push (suc n) (y ∷ xs) x none h = any_push n xs x none h

  any_none : (n : ℕ) → list_any p (drop n []) ≡ true → false ≡ true
  any_none zero h = h
  any_none (suc n) h = h

  by_open : (v w : Bool) (xs ys xs' ys' : List Handed) → (list_any p xs' ≡ true → list_any p xs ≡ true) → (list_any p ys' ≡ true → list_any p ys ≡ true)
      → list_any p (cond v (cond w xs' ys') []) ≡ true → list_any p (cond v (cond w xs ys) []) ≡ true
  by_open true true xs ys xs' ys' f g h = f h
  by_open true false xs ys xs' ys' f g h = g h
  by_open false w xs ys xs' ys' f g h = h

module _ (o : Opening) where
  -- ---- connections

  -- of these commands nothing more is under way
  abbrev pub NoMoreOf : (ℕ → Bool) → List Link → List Link → Type 0
  NoMoreOf these links links' = list_any (has_under_way o these) links' ≡ true → list_any (has_under_way o these) links ≡ true

  less_map : (these : ℕ → Bool) (P : Link → Type 0) (change : Link → Link) → ((l : Link) → P l → has_under_way o these (change l) ≡ true → has_under_way o these l ≡ true) → (links : List Link) → EachOf P links → NoMoreOf these links (map change links)
  less_map these P change less [] all h = h
  less_map these P change less (l ∷ links) all h =
      elim (has_under_way o these (change l)) as (λ v. has_under_way o these (change l) ≡ v → (v || list_any (has_under_way o these) (map change links)) ≡ true → (has_under_way o these l || list_any (has_under_way o these) links) ≡ true) [
        | true ↦ λ is k. or_first (has_under_way o these l) (list_any (has_under_way o these) links) (less l all.0 is)
        | false ↦ λ is k. or_second (has_under_way o these l) (list_any (has_under_way o these) links) (less_map these P change less links all.1 k)
      ] refl h

  pub less_at : (these : ℕ → Bool) (P : Link → Type 0) (conn : ℕ) (change : Link → Link) → ((l : Link) → P l → has_under_way o these (change l) ≡ true → has_under_way o these l ≡ true) → (links : List Link) → EachOf P links
      → NoMoreOf these links (at_link conn change links)
  less_at these P conn change less links all =
      less_map these P (λ (l : Link). cond (l.conn == conn) (change l) l)
      (λ l k. cond_both (l.conn == conn) (change l) l (λ (m : Link). has_under_way o these m ≡ true → has_under_way o these l ≡ true) (λ is. less l k) (λ is h. h)) links all

  pub less_wrote : (these : ℕ → Bool) (l : Link) → has_under_way o these (one_written l) ≡ true → has_under_way o these l ≡ true
  less_wrote these l =
      let p : Handed → Bool = λ h. is_of these h.out in
      cond_both (nat_lt l.written (length l.handed)) (record l { written = l.written + 1 }) l (λ (m : Link). has_under_way o these m ≡ true → has_under_way o these l ≡ true)
      (λ is. by_open p (is_open l) (looks_for_arrival o) (unarrived l) (unwritten l) (unarrived l) (drop (l.written + 1) l.handed) (λ h. h) (any_drop p l.written (l.written + 1) l.handed (omega arith)))
      (λ is h. h)

  most : (n m : ℕ) → n ≤ max n m
  most n m = omega arith

  pub less_heard : (these : ℕ → Bool) (exp_stat_sn tag : ℕ) (l : Link) → has_under_way o these (link_heard exp_stat_sn tag l) ≡ true → has_under_way o these l ≡ true
  less_heard these exp_stat_sn tag l =
      let p : Handed → Bool = λ h. is_of these h.out in
      let n : ℕ = max (arrived_by_stat_sn l exp_stat_sn) (arrived_by_ping l tag) in
      cond_both (is_open l) (record l { arrived = max l.arrived n }) l (λ (m : Link). has_under_way o these m ≡ true → has_under_way o these l ≡ true)
      (λ is. by_open p (is_open l) (looks_for_arrival o) (unarrived l) (unwritten l) (drop (max l.arrived n) l.handed) (unwritten l) (any_drop p l.arrived (max l.arrived n) l.handed (most l.arrived n)) (λ h. h))
      (λ is h. h)

  pub less_lost : (these : ℕ → Bool) (l : Link) → has_under_way o these (link_lost l) ≡ true → has_under_way o these l ≡ true
  less_lost these l h = absurd (false≢true (shut l.joined h))
    where
      shut : (v : Bool) → list_any (λ (x : Handed). is_of these x.out) (cond (v && false) (cond (looks_for_arrival o) (unarrived l) (unwritten l)) []) ≡ true → false ≡ true
      shut true k = k
      shut false k = k

  -- nothing was handed out before a connection joined
  pub less_joined : (these : ℕ → Bool) (stat_sn : ℕ) (l : Link) → (l.joined ≡ false → l.handed ≡ []) → has_under_way o these (link_joined stat_sn l) ≡ true → has_under_way o these l ≡ true
  less_joined these stat_sn l empty h =
      elim (l.joined) as (λ v. l.joined ≡ v → list_any p (cond (v && not l.lost) (cond (looks_for_arrival o) (unarrived l) (unwritten l)) []) ≡ true) [
        | true ↦ λ is. h
        | false ↦ λ is. absurd (false≢true (by_tests (not l.lost) (looks_for_arrival o) (empty is) h))
      ] refl
    where
      p : Handed → Bool
      p = λ x. is_of these x.out

      by_tests : (v w : Bool) → l.handed ≡ [] → list_any p (cond v (cond w (drop l.arrived l.handed) (drop l.written l.handed)) []) ≡ true → false ≡ true
      by_tests true true none k = any_none p l.arrived (sym (ap (λ xs. list_any p (drop l.arrived xs)) none) ∙ k)
      by_tests true false none k = any_none p l.written (sym (ap (λ xs. list_any p (drop l.written xs)) none) ∙ k)
      by_tests false w none k = k

  any_link : (links : List Link) → EachOf (λ (l : Link). Unit {0}) links
  any_link [] = tt
  any_link (l ∷ links) = (tt, any_link links)

  pub plain_at : (these : ℕ → Bool) (conn : ℕ) (change : Link → Link) → ((l : Link) → has_under_way o these (change l) ≡ true → has_under_way o these l ≡ true) → (links : List Link) → NoMoreOf these links (at_link conn change links)
  plain_at these conn change less links = less_at these (λ (l : Link). Unit {0}) conn change (λ l k. less l) links (any_link links)

  -- what is handed out is of none of these
  pub less_given : (these : ℕ → Bool) (b : Box) (l : Link) (out : Outgoing) → is_of these out ≡ false → NoMoreOf these b.links (after_given o b l (handed_as o b l out)).links
  less_given these b l out none h =
      let p : Handed → Bool = λ x. is_of these x.out in
      let x : Handed = handed_as o b l out in
      let taken : List Link = at_link l.conn (taken_from out) b.links in
      plain_at these l.conn (taken_from out)
      (λ m. cond_both (is_from_queue out) (record m { queue = drop 1 m.queue }) m (λ (k : Link). has_under_way o these k ≡ true → has_under_way o these m ≡ true) (λ is k. k) (λ is k. k)) b.links
      (plain_at these l.conn (λ (m : Link). record m { handed = m.handed ++ x ∷ [] })
      (λ m. by_open p (is_open m) (looks_for_arrival o) (unarrived m) (unwritten m) (drop m.arrived (m.handed ++ x ∷ [])) (drop m.written (m.handed ++ x ∷ [])) (any_push p m.arrived m.handed x none) (any_push p m.written m.handed x none)) taken h)

-- ---- commands

-- none weighs more than it did
pub weight_each : (u v : ℕ → Bool) (ts : List Task) → EachOf (λ (x : Task). is_left_phase x.phase ≡ true → u x.ticket ≡ true → v x.ticket ≡ true) ts → weight u ts ≤ weight v ts
weight_each u v [] all = omega arith
weight_each u v (x ∷ ts) all =
    omega (
      arith,
      count-cons (λ (y : Task). weighs y.phase (u y.ticket)) x ts,
      count-cons (λ (y : Task). weighs y.phase (v y.ticket)) x ts,
      one_less (weighs x.phase (u x.ticket)) (weighs x.phase (v x.ticket)) (by_phase x.phase (u x.ticket) (v x.ticket) all.0),
      weight_each u v ts all.1,
    )
  where
    one_less : (a c : Bool) → (a ≡ true → c ≡ true) → one a ≤ one c
    one_less false c h = omega arith
    one_less true true h = omega arith
    one_less true false h = absurd (false≢true (h refl))

    by_phase : (p : Phase) (a c : Bool) → (is_left_phase p ≡ true → a ≡ true → c ≡ true) → weighs p a ≡ true → weighs p c ≡ true
    by_phase Dormant a c h k = refl
    by_phase Fresh a c h k = refl
    by_phase Started a c h k = refl
    by_phase Completed a c h k = k
    by_phase Running a c h k = refl
    by_phase Gone a c h k = h refl k
