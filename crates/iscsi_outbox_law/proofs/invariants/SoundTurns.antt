-- Commands that turn to other phases, leave and enter.
use Rattle.std.proofs.Common.{◌≡◌, ◌<◌, ℕ, ◌==◌, ◌&&◌, ⊎_elim, arith, cond, true, false, List, [], ◌∷◌, ◌++◌, map, filter_map, refl, ap, sym, subst, ◌∙◌}
use Rattle.std.specs.List.{list_any}
use Rattle.std.proofs.lemmas.Bool.{and_from, and_parts, cond_both, eqb-true, false≢true, false_from_ne_true, or_left, or_cases}
use Rattle.std.proofs.lemmas.List.Folds.{list_any-append}
use Rattle.iscsi_wire.specs.declared.request.Request.{Request}
use Rattle.iscsi_wire.specs.Fields.{connection_of}
use Rattle.iscsi_rules.specs.declared.effect.Effect.{Effect}
use Rattle.iscsi_rules.specs.declared.effect.Effect.TheVariants.{Deliver, Immediate, Wait, Void, Empty, Enter, Enable, Leave, Send, CloseConn, CloseSession, Ignore}
use Rattle.iscsi_rules.specs.rules.Settings.{is_known}
use Rattle.iscsi_outbox_rules.specs.rules.Calls.{Opening}
use Rattle.iscsi_outbox_rules.specs.rules.Boxes.{Phase, Dormant, Fresh, Started, Completed, Running, Gone, Task}
use Rattle.iscsi_outbox_rules.specs.rules.Words.{contains, is_left_phase, is_live_phase}
use Rattle.iscsi_outbox_rules.specs.rules.Items.{phase_taken_out, phase_completed, phase_enabled, phase_told, task_entered}
use Rattle.iscsi_outbox_rules.specs.rules.Run.{phase_stopped}
use Rattle.iscsi_outbox_law.specs.private.Pairs.{EachOf, InOrder}
use Rattle.iscsi_outbox_law.specs.private.Sound.{entries_of}
use Rattle.iscsi_outbox_law.proofs.general.PairLemmas.{each-append, each-map, each-weaken}
use Rattle.iscsi_outbox_law.proofs.general.Members.{In, any_found, each-in}
use Rattle.iscsi_outbox_law.proofs.commands.TrackedLemmas.{order_map}
use Rattle.iscsi_outbox_law.proofs.invariants.SoundFirm.{has_home, left_in, AreTasksFirm, Onto}
use Rattle.iscsi_outbox_law.proofs.invariants.SoundLists.{any_mapped, any_unmapped, order_join}

-- ---- phases

-- it stays the same command, and left if it had left
pub record IsTurn (f : Task → Task) : Type 0 where
  pub ticket : (t : Task) → (f t).ticket ≡ t.ticket
  pub conn : (t : Task) → (f t).conn ≡ t.conn
  pub left : (t : Task) → is_left_phase t.phase ≡ true → is_left_phase (f t).phase ≡ true

abbrev pub phased : (Phase → Phase) → List ℕ → Task → Task
phased change tickets t = cond (contains tickets t.ticket) (record t { phase = change t.phase }) t

pub turn_phased : (change : Phase → Phase) (tickets : List ℕ) → ((p : Phase) → is_left_phase p ≡ true → is_left_phase (change p) ≡ true) → IsTurn (phased change tickets)
turn_phased change tickets stays = record {
  ticket = λ t. cond_both (contains tickets t.ticket) (record t { phase = change t.phase }) t (λ (x : Task). x.ticket ≡ t.ticket) (λ is. refl) (λ is. refl);
  conn = λ t. cond_both (contains tickets t.ticket) (record t { phase = change t.phase }) t (λ (x : Task). x.conn ≡ t.conn) (λ is. refl) (λ is. refl);
  left = λ t before. cond_both (contains tickets t.ticket) (record t { phase = change t.phase }) t (λ (x : Task). is_left_phase x.phase ≡ true) (λ is. stays t.phase before) (λ is. before);
}

pub unleft_phased : (change : Phase → Phase) (tickets : List ℕ) → ((p : Phase) → is_left_phase (change p) ≡ true → is_left_phase p ≡ true) → (t : Task) → is_left_phase (phased change tickets t).phase ≡ true → is_left_phase t.phase ≡ true
unleft_phased change tickets back t =
    cond_both (contains tickets t.ticket) (record t { phase = change t.phase }) t (λ (x : Task). is_left_phase x.phase ≡ true → is_left_phase t.phase ≡ true) (λ is. back t.phase) (λ is h. h)

pub taken_out_left : (p : Phase) → is_left_phase p ≡ true → is_left_phase (phase_taken_out p) ≡ true
taken_out_left Dormant h = refl
taken_out_left Fresh h = refl
taken_out_left Started h = refl
taken_out_left Completed h = h
taken_out_left Running h = refl
taken_out_left Gone h = refl

pub completed_left : (p : Phase) → is_left_phase (phase_completed p) ≡ is_left_phase p
completed_left Dormant = refl
completed_left Fresh = refl
completed_left Started = refl
completed_left Completed = refl
completed_left Running = refl
completed_left Gone = refl

pub enabled_left : (p : Phase) → is_left_phase (phase_enabled p) ≡ is_left_phase p
enabled_left Dormant = refl
enabled_left Fresh = refl
enabled_left Started = refl
enabled_left Completed = refl
enabled_left Running = refl
enabled_left Gone = refl

pub told_left : (p : Phase) → is_left_phase (phase_told p) ≡ is_left_phase p
told_left Dormant = refl
told_left Fresh = refl
told_left Started = refl
told_left Completed = refl
told_left Running = refl
told_left Gone = refl

pub stopped_left : (p : Phase) → is_left_phase (phase_stopped p) ≡ is_left_phase p
stopped_left Dormant = refl
stopped_left Fresh = refl
stopped_left Started = refl
stopped_left Completed = refl
stopped_left Running = refl
stopped_left Gone = refl

live_unleft : (p : Phase) → is_live_phase p ≡ true → is_left_phase p ≡ false
live_unleft Dormant h = refl
live_unleft Fresh h = refl
live_unleft Started h = refl
live_unleft Completed h = refl
live_unleft Running h = absurd (false≢true h)
live_unleft Gone h = absurd (false≢true h)

-- ---- all commands

module _ (f : Task → Task) (turn : IsTurn f) (ts : List Task) where
  pub onto_turn : Onto ts (map f ts)
  onto_turn = record {
    homes = λ conn k.
        any_mapped (λ (t : Task). t.ticket == k && t.conn == conn) (λ (t : Task). t.ticket == k && t.conn == conn) f ts
        (λ t is. ap (λ (n : ℕ). n == k && (f t).conn == conn) (turn.ticket t) ∙ ap (λ (c : ℕ). t.ticket == k && c == conn) (turn.conn t) ∙ is);
    left = λ k.
        any_mapped (λ (t : Task). t.ticket == k && is_left_phase t.phase) (λ (t : Task). t.ticket == k && is_left_phase t.phase) f ts
        (λ t is. let parts = and_parts (t.ticket == k) (is_left_phase t.phase) is in and_from ((f t).ticket == k) (is_left_phase (f t).phase) (ap (λ (n : ℕ). n == k) (turn.ticket t) ∙ parts.0) (turn.left t parts.1));
  }

  pub unleft_turn : ((t : Task) → is_left_phase (f t).phase ≡ true → is_left_phase t.phase ≡ true) → (k : ℕ) → left_in (map f ts) k ≡ true → left_in ts k ≡ true
  unleft_turn back k =
      any_unmapped (λ (t : Task). t.ticket == k && is_left_phase t.phase) (λ (t : Task). t.ticket == k && is_left_phase t.phase) f ts
      (λ t is. let parts = and_parts ((f t).ticket == k) (is_left_phase (f t).phase) is in and_from (t.ticket == k) (is_left_phase t.phase) (sym (ap (λ (n : ℕ). n == k) (turn.ticket t)) ∙ parts.0) (back t parts.1))

  pub firm_turn : (o : Opening) → AreTasksFirm o ts → AreTasksFirm o (map f ts)
  firm_turn o h = record {
    ascending = order_map (λ (t u : Task). t.ticket < u.ticket) f ts (λ t u lt. subst (λ (n : ℕ). n < (f u).ticket) (sym (turn.ticket t)) (subst (λ (n : ℕ). t.ticket < n) (sym (turn.ticket u)) lt)) h.ascending;
    known = each-map (λ (t : Task). is_known t.conn o.session.conns ≡ true) (λ (t : Task). is_known t.conn o.session.conns ≡ true) f ts (λ t k. ap (λ (c : ℕ). is_known c o.session.conns) (turn.conn t) ∙ k) h.known;
  }

-- but for those that are taken out none leaves
pub left_out : (tickets : List ℕ) (ts : List Task) (k : ℕ) → left_in ts k ≡ false → contains tickets k ≡ false → left_in (map (phased phase_taken_out tickets) ts) k ≡ false
left_out tickets ts k unleft other =
    false_from_ne_true (left_in (map (phased phase_taken_out tickets) ts) k)
    (λ left. false≢true (sym unleft ∙ any_unmapped (λ (t : Task). t.ticket == k && is_left_phase t.phase) (λ (t : Task). t.ticket == k && is_left_phase t.phase) (phased phase_taken_out tickets) ts same left))
  where
    same : (t : Task) → ((phased phase_taken_out tickets t).ticket == k && is_left_phase (phased phase_taken_out tickets t).phase) ≡ true → (t.ticket == k && is_left_phase t.phase) ≡ true
    same t =
        cond_both (contains tickets t.ticket) (record t { phase = phase_taken_out t.phase }) t (λ (x : Task). (x.ticket == k && is_left_phase x.phase) ≡ true → (t.ticket == k && is_left_phase t.phase) ≡ true)
        (λ among is. absurd (let parts = and_parts (t.ticket == k) (is_left_phase (phase_taken_out t.phase)) is in false≢true (sym other ∙ ap (contains tickets) (sym (eqb-true t.ticket k parts.0)) ∙ among)))
        (λ among is. is)

-- what is live hasn't left: a ticket is that of one command
pub live_stays : (ts : List Task) (k : ℕ) → InOrder (λ (t u : Task). t.ticket < u.ticket) ts → list_any (λ (t : Task). t.ticket == k && is_live_phase t.phase) ts ≡ true → left_in ts k ≡ false
live_stays ts k order live =
    false_from_ne_true (left_in ts k)
    (λ left.
    let x = any_found (λ (t : Task). t.ticket == k && is_live_phase t.phase) ts live in
    let y = any_found (λ (t : Task). t.ticket == k && is_left_phase t.phase) ts left in
    let first = and_parts (x.0.ticket == k) (is_live_phase x.0.phase) x.2 in
    let second = and_parts (y.0.ticket == k) (is_left_phase y.0.phase) y.2 in
    let same : x.0 ≡ y.0 = one_command ts x.0 y.0 order x.1 y.1 (eqb-true x.0.ticket k first.0 ∙ sym (eqb-true y.0.ticket k second.0)) in
    false≢true (sym (live_unleft x.0.phase first.1) ∙ ap (λ (t : Task). is_left_phase t.phase) same ∙ second.1))
  where
    behind : (z x : Task) (us : List Task) → EachOf (λ (w : Task). z.ticket < w.ticket) us → In x us → z.ticket ≡ x.ticket → ⊥
    behind z x us h at same = let lt : z.ticket < x.ticket = each-in (λ (w : Task). z.ticket < w.ticket) us x at h in omega (arith, lt, same)

    one_command : (us : List Task) (x y : Task) → InOrder (λ (t u : Task). t.ticket < u.ticket) us → In x us → In y us → x.ticket ≡ y.ticket → x ≡ y
    one_command [] x y h i j same = absurd i
    one_command (z ∷ us) x y h i j same =
        ⊎_elim
        (λ first. ⊎_elim (λ second. first ∙ sym second) (λ later. absurd (behind z y us h.0 later (sym (ap (λ (w : Task). w.ticket) first) ∙ same))) j)
        (λ later. ⊎_elim (λ second. absurd (behind z x us h.0 later (sym (ap (λ (w : Task). w.ticket) second) ∙ sym same))) (λ next. one_command us x y h.1 later next same) j) i

-- ---- commands that enter

each_entering : (P : ℕ × ℕ → Type 0) (Q : Task → Type 0) (r : Request) → ((e : ℕ × ℕ) (t : Task) → t.ticket ≡ e.0 → t.conn ≡ connection_of r → t.phase ≡ Dormant → P e → Q t) → (item : List Effect)
    → EachOf P (entries_of item) → EachOf Q (filter_map (task_entered r) item)
each_entering P Q r f [] h = tt
each_entering P Q r f (Enter ticket unit attr ∷ es) h = (f (ticket, unit) _ refl refl refl h.0, each_entering P Q r f es h.1)
each_entering P Q r f (Deliver q ∷ es) h = each_entering P Q r f es h
each_entering P Q r f (Immediate q ∷ es) h = each_entering P Q r f es h
each_entering P Q r f (Wait q ∷ es) h = each_entering P Q r f es h
each_entering P Q r f (Void sn ∷ es) h = each_entering P Q r f es h
each_entering P Q r f (Empty sn ∷ es) h = each_entering P Q r f es h
each_entering P Q r f (Enable ticket unit ∷ es) h = each_entering P Q r f es h
each_entering P Q r f (Leave ticket unit ∷ es) h = each_entering P Q r f es h
each_entering P Q r f (Send conn stat_sn reply ∷ es) h = each_entering P Q r f es h
each_entering P Q r f (CloseConn conn ∷ es) h = each_entering P Q r f es h
each_entering P Q r f (CloseSession ∷ es) h = each_entering P Q r f es h
each_entering P Q r f (Ignore why ∷ es) h = each_entering P Q r f es h

order_entering : (r : Request) (item : List Effect) → InOrder (λ (d e : ℕ × ℕ). d.0 < e.0) (entries_of item) → InOrder (λ (t u : Task). t.ticket < u.ticket) (filter_map (task_entered r) item)
order_entering r [] h = tt
order_entering r (Enter ticket unit attr ∷ es) h =
    (each_entering (λ (e : ℕ × ℕ). ticket < e.0) (λ (t : Task). ticket < t.ticket) r (λ e t same conn phase lt. subst (λ (n : ℕ). ticket < n) (sym same) lt) es h.0, order_entering r es h.1)
order_entering r (Deliver q ∷ es) h = order_entering r es h
order_entering r (Immediate q ∷ es) h = order_entering r es h
order_entering r (Wait q ∷ es) h = order_entering r es h
order_entering r (Void sn ∷ es) h = order_entering r es h
order_entering r (Empty sn ∷ es) h = order_entering r es h
order_entering r (Enable ticket unit ∷ es) h = order_entering r es h
order_entering r (Leave ticket unit ∷ es) h = order_entering r es h
order_entering r (Send conn stat_sn reply ∷ es) h = order_entering r es h
order_entering r (CloseConn conn ∷ es) h = order_entering r es h
order_entering r (CloseSession ∷ es) h = order_entering r es h
order_entering r (Ignore why ∷ es) h = order_entering r es h

each_swap : {A B : Type 0} (R : A → B → Type 0) (xs : List A) (ys : List B) → EachOf (λ y. EachOf (λ x. R x y) xs) ys → EachOf (λ x. EachOf (R x) ys) xs
each_swap R [] ys h = tt
each_swap R (x ∷ xs) ys h = (each-weaken (λ y. EachOf (λ z. R z y) (x ∷ xs)) (R x) ys (λ y k. k.0) h, each_swap R xs ys (each-weaken (λ y. EachOf (λ z. R z y) (x ∷ xs)) (λ y. EachOf (λ z. R z y) xs) ys (λ y k. k.1) h))

module _ (o : Opening) (ts : List Task) (r : Request) (item : List Effect) (order : InOrder (λ (d e : ℕ × ℕ). d.0 < e.0) (entries_of item))
    (later : EachOf (λ (e : ℕ × ℕ). EachOf (λ (t : Task). t.ticket < e.0) ts) (entries_of item)) where
  pub firm_entering : is_known (connection_of r) o.session.conns ≡ true → AreTasksFirm o ts → AreTasksFirm o (ts ++ filter_map (task_entered r) item)
  firm_entering known h = record {
    ascending = order_join (λ (t u : Task). t.ticket < u.ticket) ts (filter_map (task_entered r) item) h.ascending (order_entering r item order)
        (each_swap (λ (t u : Task). t.ticket < u.ticket) ts (filter_map (task_entered r) item)
        (each_entering (λ (e : ℕ × ℕ). EachOf (λ (t : Task). t.ticket < e.0) ts) (λ (u : Task). EachOf (λ (t : Task). t.ticket < u.ticket) ts) r
        (λ e u same conn phase k. subst (λ (n : ℕ). EachOf (λ (t : Task). t.ticket < n) ts) (sym same) k) item later));
    known = each-append (λ (t : Task). is_known t.conn o.session.conns ≡ true) ts (filter_map (task_entered r) item) h.known
        (each_entering (λ (e : ℕ × ℕ). EachOf (λ (t : Task). t.ticket < e.0) ts) (λ (u : Task). is_known u.conn o.session.conns ≡ true) r (λ e u same conn phase k. ap (λ (c : ℕ). is_known c o.session.conns) conn ∙ known) item later);
  }

  pub onto_entering : Onto ts (ts ++ filter_map (task_entered r) item)
  onto_entering = record {
    homes = λ conn k is. list_any-append (λ (t : Task). t.ticket == k && t.conn == conn) ts (filter_map (task_entered r) item) ∙ or_left (has_home ts conn k) (has_home (filter_map (task_entered r) item) conn k) is;
    left = λ k is. list_any-append (λ (t : Task). t.ticket == k && is_left_phase t.phase) ts (filter_map (task_entered r) item) ∙ or_left (left_in ts k) (left_in (filter_map (task_entered r) item) k) is;
  }

  pub unleft_entering : (k : ℕ) → left_in (ts ++ filter_map (task_entered r) item) k ≡ true → left_in ts k ≡ true
  unleft_entering k is =
      ⊎_elim (λ before. before) (λ new. absurd (none (filter_map (task_entered r) item) dormant new))
      (or_cases (left_in ts k) (left_in (filter_map (task_entered r) item) k) (sym (list_any-append (λ (t : Task). t.ticket == k && is_left_phase t.phase) ts (filter_map (task_entered r) item)) ∙ is))
    where
      dormant : EachOf (λ (t : Task). is_left_phase t.phase ≡ false) (filter_map (task_entered r) item)
      dormant = each_entering (λ (e : ℕ × ℕ). EachOf (λ (t : Task). t.ticket < e.0) ts) (λ (t : Task). is_left_phase t.phase ≡ false) r (λ e t same conn phase k. ap is_left_phase phase) item later

      none : (us : List Task) → EachOf (λ (t : Task). is_left_phase t.phase ≡ false) us → left_in us k ≡ true → ⊥
      none us h some =
          let x = any_found (λ (t : Task). t.ticket == k && is_left_phase t.phase) us some in
          false≢true (sym (each-in (λ (t : Task). is_left_phase t.phase ≡ false) us x.0 x.1 h) ∙ (and_parts (x.0.ticket == k) (is_left_phase x.0.phase) x.2).1)
