-- Under a session each ticket enters once.
use Rattle.std.proofs.Common.{◌≡◌, ℕ, zero, suc, ◌==◌, ◌+◌, ◌≤◌, ◌<◌, ◌⊎◌, inl, inr, ⊎_elim, cond, true, false, List, [], ◌∷◌, ◌++◌, length, map, filter_map, count_by, Some, None, refl, ap, sym, subst, ◌∙◌, arith, eq-eqb}
use Rattle.std.specs.List.{flat_map, cons_option, range_with_len}
use Rattle.std.proofs.lemmas.Bool.{eqb-true}
use Rattle.std.proofs.lemmas.List.{append_assoc}
use Rattle.std.proofs.lemmas.List.Elements.{filter_map-append}
use Rattle.std.proofs.lemmas.List.Sums.{sum_by-cons, sum_by-append}
use Rattle.iscsi_wire.specs.declared.request.Request.{Request}
use Rattle.iscsi_wire.specs.Fields.{connection_of}
use Rattle.iscsi_rules.specs.declared.effect.Effect.{Effect}
use Rattle.iscsi_rules.specs.declared.effect.Effect.TheVariants.{Deliver, Immediate, Wait, Void, Empty, Enter, Enable, Leave, Send, CloseConn, CloseSession, Ignore}
use Rattle.iscsi_rules.specs.declared.entry.Entry.{Entry}
use Rattle.iscsi_rules.specs.rules.Run.{run_of}
use Rattle.iscsi_rules.specs.promises.Enabling.{effects_in}
use Rattle.iscsi_rules.specs.promises.Lives.{ticket_entered, tickets_entered}
use Rattle.iscsi_rules.specs.promises.Order.{is_request, onto_first, in_parts}
use Rattle.iscsi_rules.proofs.general.ListLemmas.{count_by-map}
use Rattle.iscsi_rules.proofs.promises.LifeTheorem.{starts_once}
use Rattle.iscsi_outbox_rules.specs.rules.Calls.{Opening, Call}
use Rattle.iscsi_outbox_rules.specs.rules.Boxes.{Task}
use Rattle.iscsi_outbox_rules.specs.rules.Run.{opened}
use Rattle.iscsi_outbox_rules.specs.rules.Items.{executing, task_entered}
use Rattle.iscsi_outbox_rules.specs.promises.Deeds.{deeds_of, items_in, FollowsSession}
use Rattle.iscsi_outbox_rules.proofs.general.EachLemmas.{EachOf}
use Rattle.iscsi_outbox_rules.proofs.order.SentLemmas.{items_logged}

-- ---- effects in parts are all of the effects

onto_whole : (e : Effect) (parts : List (List Effect)) → flat_map (λ (es : List Effect). es) (onto_first e parts) ≡ e ∷ flat_map (λ (es : List Effect). es) parts
onto_whole e [] = refl
onto_whole e (es ∷ rest) = refl

pub parts_whole : (es : List Effect) → flat_map (λ (p : List Effect). p) (in_parts es) ≡ es
parts_whole [] = refl
parts_whole (e ∷ es) =
    elim (is_request e) as (λ v. flat_map (λ (p : List Effect). p) (cond v ([] ∷ onto_first e (in_parts es)) (onto_first e (in_parts es))) ≡ e ∷ es) [
      | true ↦ onto_whole e (in_parts es) ∙ ap (λ xs. e ∷ xs) (parts_whole es)
      | false ↦ onto_whole e (in_parts es) ∙ ap (λ xs. e ∷ xs) (parts_whole es)
    ]

joined_flat : (xs ys : List (List Effect)) → flat_map (λ (es : List Effect). es) (xs ++ ys) ≡ flat_map (λ (es : List Effect). es) xs ++ flat_map (λ (es : List Effect). es) ys
joined_flat [] ys = refl
joined_flat (x ∷ xs) ys = ap (λ zs. x ++ zs) (joined_flat xs ys) ∙ sym (append_assoc x (flat_map (λ (es : List Effect). es) xs) (flat_map (λ (es : List Effect). es) ys))

pub log_whole : (es : List Entry) → flat_map (λ (p : List Effect). p) (flat_map (λ (e : Entry). in_parts e.effects) es) ≡ effects_in es
log_whole [] = refl
log_whole (e ∷ es) =
    joined_flat (in_parts e.effects) (flat_map (λ (x : Entry). in_parts x.effects) es)
    ∙ ap (λ xs. xs ++ flat_map (λ (p : List Effect). p) (flat_map (λ (x : Entry). in_parts x.effects) es)) (parts_whole e.effects) ∙ ap (λ xs. e.effects ++ xs) (log_whole es)

-- ---- a ticket among numbers in order

below_first : (t s n : ℕ) → t < s → count_by (λ k. k == t) (range_with_len s n) ≡ 0
below_first t s zero less = refl
below_first t s (suc n) less =
    sum_by-cons (λ k. cond (k == t) 1 0) s (range_with_len (s + 1) n)
    ∙ (let rest : count_by (λ k. k == t) (range_with_len (s + 1) n) ≡ 0 = below_first t (s + 1) n (omega arith) in
    elim (s == t) as (λ v. (s == t) ≡ v → cond v 1 0 + count_by (λ k. k == t) (range_with_len (s + 1) n) ≡ 0) [
      | true ↦ λ is. let same : s ≡ t = eqb-true s t is in absurd (omega (arith, same, less))
      | false ↦ λ is. omega (arith, rest)
    ] refl)

pub in_range_once : (t s n : ℕ) → count_by (λ k. k == t) (range_with_len s n) ≤ 1
in_range_once t s zero = omega arith
in_range_once t s (suc n) =
    subst (λ m. m ≤ 1) (sym (sum_by-cons (λ k. cond (k == t) 1 0) s (range_with_len (s + 1) n)))
    (elim (s == t) as (λ v. (s == t) ≡ v → cond v 1 0 + count_by (λ k. k == t) (range_with_len (s + 1) n) ≤ 1) [
      | true ↦ λ is. let same : s ≡ t = eqb-true s t is in let rest : count_by (λ k. k == t) (range_with_len (s + 1) n) ≡ 0 = below_first t (s + 1) n (omega arith) in omega (arith, rest)
      | false ↦ λ is. let rest : count_by (λ k. k == t) (range_with_len (s + 1) n) ≤ 1 = in_range_once t (s + 1) n in omega (arith, rest)
    ] refl)

pub none_or_some : (n : ℕ) → (n ≡ 0) ⊎ (1 ≤ n)
none_or_some zero = inl refl
none_or_some (suc n) = inr (omega arith)

-- ---- how often a ticket enters

module _ (t : ℕ) where
  abbrev pub entered : List Effect → ℕ
  entered item = count_by (λ k. k == t) (tickets_entered item)

  abbrev pub entries : List (List Effect) → ℕ
  entries [] = 0
  entries (item ∷ items) = entered item + entries items

  pub entries-append : (xs ys : List (List Effect)) → entries (xs ++ ys) ≡ entries xs + entries ys
  entries-append [] ys = omega arith
  entries-append (x ∷ xs) ys = let rest : entries (xs ++ ys) ≡ entries xs + entries ys = entries-append xs ys in omega (arith, rest)

  entries_flat : (items : List (List Effect)) → entries items ≡ entered (flat_map (λ (es : List Effect). es) items)
  entries_flat [] = refl
  entries_flat (item ∷ items) =
      ap (λ n. entered item + n) (entries_flat items)
      ∙ sym (ap (count_by (λ k. k == t)) (filter_map-append ticket_entered item (flat_map (λ (es : List Effect). es) items))
      ∙ sum_by-append (λ k. cond (k == t) 1 0) (tickets_entered item) (tickets_entered (flat_map (λ (es : List Effect). es) items)))

  entries_log : (log : List Entry) → entries (flat_map (λ (e : Entry). in_parts e.effects) log) ≡ entered (effects_in log)
  entries_log log = entries_flat (flat_map (λ (e : Entry). in_parts e.effects) log) ∙ ap entered (log_whole log)

  pub enters_once : (o : Opening) (cs : List Call) → FollowsSession o cs → entries (items_in (deeds_of o cs)) ≤ 1
  enters_once o cs follows =
      let log : List Entry = run_of o.session follows.0 in
      let found : List ℕ = tickets_entered (effects_in log) in
      let same : entries (items_in (deeds_of o cs)) ≡ count_by (λ k. k == t) found =
      ap entries (items_logged o (opened o) cs ∙ ap (flat_map (λ (e : Entry). in_parts e.effects)) follows.1) ∙ entries_log log in
      subst (λ n. n ≤ 1) (sym (same ∙ ap (count_by (λ k. k == t)) (starts_once o.session follows.0).tickets)) (in_range_once t 1 (length found))

  -- ---- the commands that enter

  abbrev pub with_ticket : List Task → ℕ
  with_ticket ts = count_by (λ (x : Task). x.ticket == t) ts

  tasks_tickets : (r : Request) (item : List Effect) → map (λ (x : Task). x.ticket) (filter_map (task_entered r) item) ≡ tickets_entered item
  tasks_tickets r [] = refl
  tasks_tickets r (e ∷ item) = by_effect e (tasks_tickets r item)
    where
      by_effect : (x : Effect) → map (λ (y : Task). y.ticket) (filter_map (task_entered r) item) ≡ tickets_entered item → map (λ (y : Task). y.ticket) (cons_option (task_entered r x) (filter_map (task_entered r) item)) ≡ cons_option (ticket_entered x) (tickets_entered item)
      by_effect (Deliver q) rest = rest
      by_effect (Immediate q) rest = rest
      by_effect (Wait q) rest = rest
      by_effect (Void n) rest = rest
      by_effect (Empty n) rest = rest
      by_effect (Enter ticket unit attr) rest = ap (λ ns. ticket ∷ ns) rest
      by_effect (Enable ticket unit) rest = rest
      by_effect (Leave ticket unit) rest = rest
      by_effect (Send conn stat_sn reply) rest = rest
      by_effect (CloseConn conn) rest = rest
      by_effect CloseSession rest = rest
      by_effect (Ignore why) rest = rest

  pub count_entering : (r : Request) (item : List Effect) → with_ticket (filter_map (task_entered r) item) ≡ entered item
  count_entering r item = sym (count_by-map (λ k. k == t) (λ (x : Task). x.ticket) (filter_map (task_entered r) item)) ∙ ap (count_by (λ k. k == t)) (tasks_tickets r item)

  pub conns_entering : (r : Request) (item : List Effect) → EachOf (λ (x : Task). x.conn ≡ connection_of r) (filter_map (task_entered r) item)
  conns_entering r [] = tt
  conns_entering r (e ∷ item) = by_effect e (conns_entering r item)
    where
      by_effect : (x : Effect) → EachOf (λ (y : Task). y.conn ≡ connection_of r) (filter_map (task_entered r) item) → EachOf (λ (y : Task). y.conn ≡ connection_of r) (cons_option (task_entered r x) (filter_map (task_entered r) item))
      by_effect (Deliver q) rest = rest
      by_effect (Immediate q) rest = rest
      by_effect (Wait q) rest = rest
      by_effect (Void n) rest = rest
      by_effect (Empty n) rest = rest
      by_effect (Enter ticket unit attr) rest = (refl, rest)
      by_effect (Enable ticket unit) rest = rest
      by_effect (Leave ticket unit) rest = rest
      by_effect (Send conn stat_sn reply) rest = rest
      by_effect (CloseConn conn) rest = rest
      by_effect CloseSession rest = rest
      by_effect (Ignore why) rest = rest

  pub ticket_counts : (f : Task → Task) → ((x : Task) → (f x).ticket ≡ x.ticket) → (ts : List Task) → with_ticket (map f ts) ≡ with_ticket ts
  ticket_counts f same [] = refl
  ticket_counts f same (x ∷ ts) =
      sum_by-cons (λ (y : Task). cond (y.ticket == t) 1 0) (f x) (map f ts)
      ∙ ap (λ k. cond (k == t) 1 0 + with_ticket (map f ts)) (same x) ∙ ap (λ n. cond (x.ticket == t) 1 0 + n) (ticket_counts f same ts)
      ∙ sym (sum_by-cons (λ (y : Task). cond (y.ticket == t) 1 0) x ts)

  pub none_of : (ts : List Task) → with_ticket ts ≡ 0 → EachOf (λ (x : Task). x.ticket ≡ t → ⊥) ts
  none_of [] none = tt
  none_of (x ∷ ts) none =
      let parts : with_ticket (x ∷ ts) ≡ cond (x.ticket == t) 1 0 + with_ticket ts = sum_by-cons (λ (y : Task). cond (y.ticket == t) 1 0) x ts in
      ((λ same. let one : cond {A = ℕ} (x.ticket == t) 1 0 ≡ 1 = ap (λ v. cond {A = ℕ} v 1 0) (eq-eqb x.ticket t same) in absurd (omega (arith, parts, none, one))), none_of ts (omega (arith, parts, none)))

  -- ---- the connection on which it enters

  abbrev pub EntersOn : ℕ → List Effect → Type 0
  EntersOn c item = (r : Request) → executing item ≡ Some r → 1 ≤ entered item → connection_of r ≡ c

  none_on : (c : ℕ) (items : List (List Effect)) → entries items ≡ 0 → EachOf (EntersOn c) items
  none_on c [] none = tt
  none_on c (item ∷ items) none = ((λ r is some. absurd (omega (arith, none, some))), none_on c items (omega (arith, none)))

  some_request : (r q : Request) → Some r ≡ Some q → r ≡ q
  some_request r q h = cc

  pub enters_on : (items : List (List Effect)) → entries items ≤ 1 → (c : ℕ) × EachOf (EntersOn c) items
  enters_on [] once = (0, tt)
  enters_on (item ∷ items) once =
      ⊎_elim
      (λ (none : entered item ≡ 0). let k = enters_on items (omega (arith, once)) in (k.0, ((λ r is some. absurd (omega (arith, none, some))), k.1)))
      (λ (some : 1 ≤ entered item). (conn, ((λ r is e. sym (ap (λ x. elim x [ Some q ↦ connection_of q | None ↦ 0 ]) is)), none_on conn items (omega (arith, once, some)))))
      (none_or_some (entered item))
    where
      conn : ℕ
      conn = elim (executing item) [ Some q ↦ connection_of q | None ↦ 0 ]
