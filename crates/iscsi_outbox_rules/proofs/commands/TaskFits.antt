-- Under a session a ticket leaves after it entered, in a later item, and once at the most.
use Rattle.std.proofs.Common.{◌≡◌, ℕ, ◌==◌, ◌+◌, ◌≤◌, cond, true, false, nat_le, List, [], ◌∷◌, ◌++◌, map, count_by, refl, ap, sym, subst, ◌∙◌, arith}
use Rattle.std.specs.List.{flat_map}
use Rattle.std.proofs.lemmas.Bool.{false≢true}
use Rattle.std.proofs.lemmas.Bool.Decides.{nat_tests}
use Rattle.std.proofs.lemmas.List.{append_assoc}
use Rattle.std.proofs.lemmas.List.Elements.{filter_map-append, filter-append}
use Rattle.std.proofs.lemmas.List.Sums.{sum_by-cons, sum_by-append}
use Rattle.iscsi_rules.specs.declared.effect.Effect.{Effect}
use Rattle.iscsi_rules.specs.declared.effect.Effect.TheVariants.{Deliver, Immediate, Wait, Void, Empty, Enter, Enable, Leave, Send, CloseConn, CloseSession, Ignore}
use Rattle.iscsi_rules.specs.declared.entry.Entry.{Entry}
use Rattle.iscsi_rules.specs.rules.Run.{run_of}
use Rattle.iscsi_rules.specs.promises.Lives.{ticket_entered, tickets_entered, names_ticket, life_of, is_life}
use Rattle.iscsi_rules.specs.promises.Order.{rank, never_falls, in_parts, AreInOrder}
use Rattle.iscsi_rules.proofs.general.BoolLemmas.{and_parts}
use Rattle.iscsi_rules.proofs.promises.LifeTheorem.{starts_once}
use Rattle.iscsi_rules.proofs.promises.OrderRuns.{keeps_order}
use Rattle.iscsi_outbox_rules.specs.rules.Calls.{Opening, Call}
use Rattle.iscsi_outbox_rules.specs.rules.Items.{ticket_left, tickets_left}
use Rattle.iscsi_outbox_rules.specs.rules.Run.{opened}
use Rattle.iscsi_outbox_rules.specs.promises.Deeds.{deeds_of, items_in, FollowsSession}
use Rattle.iscsi_outbox_rules.proofs.order.SentLemmas.{items_logged}
use Rattle.iscsi_outbox_rules.proofs.commands.TicketLemmas.{log_whole, entered, entries, enters_once}
use Rattle.iscsi_outbox_rules.proofs.commands.LeaveLemmas.{leaving, leavings, leaves_once}

falls_later : (n : ℕ) (ns : List ℕ) → never_falls (n ∷ ns) ≡ true → never_falls ns ≡ true
falls_later n [] h = refl
falls_later n (m ∷ ns) h = (and_parts (nat_le n m) (never_falls (m ∷ ns)) h).1

module _ (t : ℕ) where
  -- the ticket left `l` times before these items
  abbrev pub Fits : ℕ → List (List Effect) → Type 0
  Fits l [] = Unit {0}
  Fits l (item ∷ items) = (l + leaving t item ≤ 1) × ((1 ≤ entered t item → l + leaving t item ≡ 0) × Fits (l + leaving t item) items)

  pub fits-first : (l : ℕ) (xs ys : List (List Effect)) → Fits l (xs ++ ys) → Fits l xs
  fits-first l [] ys h = tt
  fits-first l (x ∷ xs) ys h = (h.0, (h.1.0, fits-first (l + leaving t x) xs ys h.1.1))

  pub fits-second : (l : ℕ) (xs ys : List (List Effect)) → Fits l (xs ++ ys) → Fits (l + leavings t xs) ys
  fits-second l [] ys h = let z : l ≡ l + 0 = omega arith in subst (λ k. Fits k ys) z h
  fits-second l (x ∷ xs) ys h =
      let z : (l + leaving t x) + leavings t xs ≡ l + (leaving t x + leavings t xs) = omega arith in
      subst (λ k. Fits k ys) z (fits-second (l + leaving t x) xs ys h.1.1)

  -- ---- what a life says

  -- from the rank of an Empty on nothing leaves
  none_leaves : (n : ℕ) (es : List Effect) → 3 ≤ n → never_falls (n ∷ map rank es) ≡ true → leaving t es ≡ 0
  none_leaves n [] high h = refl
  none_leaves n (e ∷ es) high h =
      let parts = and_parts (nat_le n (rank e)) (never_falls (rank e ∷ map rank es)) h in
      let reached : nat_le n (rank e) ≡ true = parts.0 in
      let above : 3 ≤ rank e = grind (arith, nat_tests, reached, high) in
      by_effect e above (none_leaves (rank e) es above parts.1)
    where
      by_effect : (x : Effect) → 3 ≤ rank x → leaving t es ≡ 0 → leaving t (x ∷ es) ≡ 0
      by_effect (Deliver r) above none = none
      by_effect (Immediate r) above none = none
      by_effect (Wait r) above none = none
      by_effect (Void n) above none = none
      by_effect (Empty n) above none = none
      by_effect (Enter k u attr) above none = none
      by_effect (Enable k u) above none = none
      by_effect (Leave k u) above none = let z : 3 ≤ 2 = above in absurd (omega (arith, z))
      by_effect (Send conn stat_sn reply) above none = none
      by_effect (CloseConn conn) above none = none
      by_effect CloseSession above none = none
      by_effect (Ignore why) above none = none

  entering : (k : ℕ) (es : List Effect) → count_by (λ j. j == t) (k ∷ tickets_entered es) ≡ cond {A = ℕ} (k == t) 1 0 + entered t es
  entering k es = sum_by-cons (λ j. cond (j == t) 1 0) k (tickets_entered es)

  one_if : (k : ℕ) → (k == t) ≡ true → cond {A = ℕ} (k == t) 1 0 ≡ 1
  one_if k is = ap (λ v. cond {A = ℕ} v 1 0) is

  none_if : (k : ℕ) → (k == t) ≡ false → cond {A = ℕ} (k == t) 1 0 ≡ 0
  none_if k isnt = ap (λ v. cond {A = ℕ} v 1 0) isnt

  -- nothing is shown of a ticket before it enters
  pub before_entry : (es more : List Effect) → is_life (life_of t es ++ more) ≡ true → entered t es ≡ 0 → (leaving t es ≡ 0) × (life_of t es ≡ [])
  before_entry [] more h none = (refl, refl)
  before_entry (e ∷ es) more h none = by_effect e (before_entry es more) h none
    where
      by_effect : (x : Effect) → (is_life (life_of t es ++ more) ≡ true → entered t es ≡ 0 → (leaving t es ≡ 0) × (life_of t es ≡ [])) → is_life (life_of t (x ∷ es) ++ more) ≡ true → entered t (x ∷ es) ≡ 0 → (leaving t (x ∷ es) ≡ 0) × (life_of t (x ∷ es) ≡ [])
      by_effect (Deliver r) rest k none = rest k none
      by_effect (Immediate r) rest k none = rest k none
      by_effect (Wait r) rest k none = rest k none
      by_effect (Void n) rest k none = rest k none
      by_effect (Empty n) rest k none = rest k none
      by_effect (Enter ticket u attr) rest k none =
          elim (ticket == t) as (λ v. (ticket == t) ≡ v → is_life (cond v (Enter ticket u attr ∷ life_of t es) (life_of t es) ++ more) ≡ true
          → (leaving t es ≡ 0) × (cond v (Enter ticket u attr ∷ life_of t es) (life_of t es) ≡ [])) [
            | true ↦ λ is life. absurd (omega (arith, none, entering ticket es, one_if ticket is))
            | false ↦ λ isnt life. rest life (omega (arith, none, entering ticket es, none_if ticket isnt))
          ] refl k
      by_effect (Enable ticket u) rest k none =
          elim (ticket == t) as (λ v. is_life (cond v (Enable ticket u ∷ life_of t es) (life_of t es) ++ more) ≡ true → (leaving t es ≡ 0) × (cond v (Enable ticket u ∷ life_of t es) (life_of t es) ≡ [])) [
            | true ↦ λ life. absurd (false≢true life)
            | false ↦ λ life. rest life none
          ] k
      by_effect (Leave ticket u) rest k none =
          elim (ticket == t) as (λ v. (ticket == t) ≡ v → is_life (cond v (Leave ticket u ∷ life_of t es) (life_of t es) ++ more) ≡ true
          → (leaving t (Leave ticket u ∷ es) ≡ 0) × (cond v (Leave ticket u ∷ life_of t es) (life_of t es) ≡ [])) [
            | true ↦ λ is life. absurd (false≢true life)
            | false ↦ λ isnt life.
                let later = rest life none in
                let counted : leaving t (Leave ticket u ∷ es) ≡ cond {A = ℕ} (ticket == t) 1 0 + leaving t es = sum_by-cons (λ j. cond (j == t) 1 0) ticket (tickets_left es) in
                (omega (arith, counted, none_if ticket isnt, later.0), later.1)
          ] refl k
      by_effect (Send conn stat_sn reply) rest k none = rest k none
      by_effect (CloseConn conn) rest k none = rest k none
      by_effect CloseSession rest k none = rest k none
      by_effect (Ignore why) rest k none = rest k none

  -- nor does it leave in the item in which it enters
  entry_item : (es more : List Effect) → never_falls (map rank es) ≡ true → is_life (life_of t es ++ more) ≡ true → 1 ≤ entered t es → leaving t es ≡ 0
  entry_item [] more falls h some = refl
  entry_item (e ∷ es) more falls h some = by_effect e (entry_item es more (falls_later (rank e) (map rank es) falls)) falls h some
    where
      by_effect : (x : Effect) → (is_life (life_of t es ++ more) ≡ true → 1 ≤ entered t es → leaving t es ≡ 0) → never_falls (rank x ∷ map rank es) ≡ true → is_life (life_of t (x ∷ es) ++ more) ≡ true → 1 ≤ entered t (x ∷ es) → leaving t (x ∷ es) ≡ 0
      by_effect (Deliver r) later now k some = later k some
      by_effect (Immediate r) later now k some = later k some
      by_effect (Wait r) later now k some = later k some
      by_effect (Void n) later now k some = later k some
      by_effect (Empty n) later now k some = later k some
      by_effect (Enter ticket u attr) later now k some =
          elim (ticket == t) as (λ v. (ticket == t) ≡ v → is_life (cond v (Enter ticket u attr ∷ life_of t es) (life_of t es) ++ more) ≡ true → leaving t es ≡ 0) [
            | true ↦ λ is life. none_leaves 4 es (omega arith) now
            | false ↦ λ isnt life. later life (omega (arith, some, entering ticket es, none_if ticket isnt))
          ] refl k
      by_effect (Enable ticket u) later now k some =
          elim (ticket == t) as (λ v. is_life (cond v (Enable ticket u ∷ life_of t es) (life_of t es) ++ more) ≡ true → leaving t es ≡ 0) [
            | true ↦ λ life. absurd (false≢true life)
            | false ↦ λ life. later life some
          ] k
      by_effect (Leave ticket u) later now k some =
          elim (ticket == t) as (λ v. (ticket == t) ≡ v → is_life (cond v (Leave ticket u ∷ life_of t es) (life_of t es) ++ more) ≡ true → leaving t (Leave ticket u ∷ es) ≡ 0) [
            | true ↦ λ is life. absurd (false≢true life)
            | false ↦ λ isnt life.
                let none : leaving t es ≡ 0 = later life some in
                let counted : leaving t (Leave ticket u ∷ es) ≡ cond {A = ℕ} (ticket == t) 1 0 + leaving t es = sum_by-cons (λ j. cond (j == t) 1 0) ticket (tickets_left es) in
                omega (arith, counted, none_if ticket isnt, none)
          ] refl k
      by_effect (Send conn stat_sn reply) later now k some = later k some
      by_effect (CloseConn conn) later now k some = later k some
      by_effect CloseSession later now k some = later k some
      by_effect (Ignore why) later now k some = later k some

  -- ---- so of all items

  entered-append : (xs ys : List Effect) → entered t (xs ++ ys) ≡ entered t xs + entered t ys
  entered-append xs ys = ap (count_by (λ k. k == t)) (filter_map-append ticket_entered xs ys) ∙ sum_by-append (λ k. cond (k == t) 1 0) (tickets_entered xs) (tickets_entered ys)

  leaving-append : (xs ys : List Effect) → leaving t (xs ++ ys) ≡ leaving t xs + leaving t ys
  leaving-append xs ys = ap (count_by (λ k. k == t)) (filter_map-append ticket_left xs ys) ∙ sum_by-append (λ k. cond (k == t) 1 0) (tickets_left xs) (tickets_left ys)

  fits_from : (seen : List Effect) (items : List (List Effect)) → is_life (life_of t (seen ++ flat_map (λ (es : List Effect). es) items)) ≡ true → AreInOrder items
      → entered t seen + entries t items ≤ 1 → leaving t seen + leavings t items ≤ 1 → Fits (leaving t seen) items
  fits_from seen [] life ordered once one = tt
  fits_from seen (item ∷ items) life ordered once one =
      let more : Fits (leaving t (seen ++ item)) items =
      fits_from (seen ++ item) items (ap (λ es. is_life (life_of t es)) (append_assoc seen item rest) ∙ life) ordered.1
      (omega (arith, once, entered-append seen item)) (omega (arith, one, leaving-append seen item)) in
      (omega (arith, one), (alone, subst (λ l. Fits l items) (leaving-append seen item) more))
    where
      rest : List Effect
      rest = flat_map (λ (es : List Effect). es) items

      parted : is_life (life_of t seen ++ life_of t (item ++ rest)) ≡ true
      parted = ap is_life (sym (filter-append (names_ticket t) seen (item ++ rest))) ∙ life

      alone : 1 ≤ entered t item → leaving t seen + leaving t item ≡ 0
      alone some =
          let before = before_entry seen (life_of t (item ++ rest)) parted (omega (arith, once, some)) in
          let here : is_life (life_of t item ++ life_of t rest) ≡ true =
          ap is_life (sym (filter-append (names_ticket t) item rest)) ∙ ap (λ es. is_life (es ++ life_of t (item ++ rest))) (sym before.1) ∙ parted in
          omega (arith, before.0, entry_item item (life_of t rest) ordered.0.kinds here some)

  pub fits_all : (o : Opening) (cs : List Call) → FollowsSession o cs → Fits 0 (items_in (deeds_of o cs))
  fits_all o cs follows =
      let log : List Entry = run_of o.session follows.0 in
      let all : List (List Effect) = items_in (deeds_of o cs) in
      let same : all ≡ flat_map (λ (e : Entry). in_parts e.effects) log = items_logged o (opened o) cs ∙ ap (flat_map (λ (e : Entry). in_parts e.effects)) follows.1 in
      let life : is_life (life_of t (flat_map (λ (es : List Effect). es) all)) ≡ true =
      ap (λ es. is_life (life_of t es)) (ap (flat_map (λ (es : List Effect). es)) same ∙ log_whole log) ∙ (starts_once o.session follows.0).lives t in
      let once : 0 + entries t all ≤ 1 = omega (arith, enters_once t o cs follows) in
      let one : 0 + leavings t all ≤ 1 = omega (arith, leaves_once t o cs follows) in
      fits_from [] all life (subst AreInOrder (sym same) (keeps_order o.session follows.0)) once one
