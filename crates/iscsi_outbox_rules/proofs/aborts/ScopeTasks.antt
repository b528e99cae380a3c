-- Each command that entered has its task in the box: with its ticket, its connection, its unit and its tag.
use Rattle.std.proofs.Common.{◌≡◌, ℕ, ◌==◌, ◌&&◌, ◌||◌, not, Bool, true, List, [], ◌∷◌, ◌++◌, map, filter_map, Option, Some, None, refl, ap, sym, subst, ◌∙◌, eq-eqb}
use Rattle.std.specs.List.{list_any, flat_map, cons_option}
use Rattle.std.proofs.lemmas.Bool.{cond_both}
use Rattle.std.proofs.lemmas.List.{append-nil}
use Rattle.std.proofs.lemmas.List.Concat.{flat_map-append}
use Rattle.std.proofs.lemmas.List.Folds.{list_any-append}
use Rattle.iscsi_wire.specs.Fields.{connection_of, is_immediate, itt}
use Rattle.iscsi_wire.specs.declared.request.Request.{Request}
use Rattle.iscsi_rules.specs.declared.effect.Effect.{Effect}
use Rattle.iscsi_rules.specs.declared.effect.Effect.TheVariants.{Deliver, Immediate, Wait, Void, Empty, Enter, Enable, Leave, Send, CloseConn, CloseSession, Ignore}
use Rattle.iscsi_rules.proofs.general.BoolLemmas.{and_both, or_second}
use Rattle.iscsi_outbox_rules.specs.rules.Boxes.{Phase, Dormant, Task}
use Rattle.iscsi_outbox_rules.specs.rules.Words.{contains}
use Rattle.iscsi_outbox_rules.specs.rules.Items.{executing, task_entered}
use Rattle.iscsi_outbox_rules.specs.promises.Scope.{Entered, entered_as, entered_in}
use Rattle.iscsi_outbox_rules.proofs.general.EachLemmas.{EachOf, each-append, each-weaken}
use Rattle.iscsi_outbox_rules.proofs.general.TaskWalks.{phased}
use Rattle.iscsi_outbox_rules.proofs.commands.TaskLives.{entered_tasks}

abbrev pub is_task_of : Entered → Task → Bool
is_task_of e x = (x.ticket == e.ticket) && ((x.conn == connection_of e.request) && ((x.unit == e.unit) && (x.tag == itt e.request)))

abbrev pub HaveTasks : List (List Effect) → List Task → Type 0
HaveTasks items ts = EachOf (λ (e : Entered). list_any (is_task_of e) ts ≡ true) (flat_map entered_in items)

pub any_same : {A B : Type 0} (p : B → Bool) (q : A → Bool) (f : A → B) (xs : List A) → ((x : A) → p (f x) ≡ q x) → list_any p (map f xs) ≡ list_any q xs
any_same p q f [] same = refl
any_same p q f (x ∷ xs) same = ap (λ v. v || list_any p (map f xs)) (same x) ∙ ap (λ v. q x || v) (any_same p q f xs same)

-- commands that turn to other phases
pub have_map : (items : List (List Effect)) (ts : List Task) (f : Task → Task) → ((e : Entered) (x : Task) → is_task_of e (f x) ≡ is_task_of e x) → HaveTasks items ts → HaveTasks items (map f ts)
have_map items ts f same h =
    each-weaken (λ (e : Entered). list_any (is_task_of e) ts ≡ true) (λ (e : Entered). list_any (is_task_of e) (map f ts) ≡ true) (flat_map entered_in items)
    (λ e k. any_same (is_task_of e) (is_task_of e) f ts (same e) ∙ k) h

pub phased_task : (change : Phase → Phase) (tickets : List ℕ) (e : Entered) (x : Task) → is_task_of e (phased change tickets x) ≡ is_task_of e x
phased_task change tickets e x = cond_both (contains tickets x.ticket) (record x { phase = change x.phase }) x (λ (y : Task). is_task_of e y ≡ is_task_of e x) (λ is. refl) (λ is. refl)

-- ---- those that enter

agrees : (a b c d : ℕ) → ((a == a) && ((b == b) && ((c == c) && (d == d)))) ≡ true
agrees a b c d =
    and_both (a == a) ((b == b) && ((c == c) && (d == d))) (eq-eqb a a refl)
    (and_both (b == b) ((c == c) && (d == d)) (eq-eqb b b refl) (and_both (c == c) (d == d) (eq-eqb c c refl) (eq-eqb d d refl)))

new_tasks : (r : Request) (item : List Effect) → EachOf (λ (n : Entered). list_any (is_task_of n) (filter_map (task_entered r) item) ≡ true) (filter_map (entered_as r) item)
new_tasks r [] = tt
new_tasks r (e ∷ item) = by_effect e (new_tasks r item)
  where
    old : List Task
    old = filter_map (task_entered r) item

    by_effect : (x : Effect) → EachOf (λ (n : Entered). list_any (is_task_of n) old ≡ true) (filter_map (entered_as r) item)
        → EachOf (λ (n : Entered). list_any (is_task_of n) (cons_option (task_entered r x) old) ≡ true) (cons_option (entered_as r x) (filter_map (entered_as r) item))
    by_effect (Deliver q) rest = rest
    by_effect (Immediate q) rest = rest
    by_effect (Wait q) rest = rest
    by_effect (Void n) rest = rest
    by_effect (Empty n) rest = rest
    by_effect (Enter ticket unit attr) rest =
        let here : Entered = record { ticket = ticket; unit = unit; request = r } in
        let task : Task = record { ticket = ticket; conn = connection_of r; unit = unit; tag = itt r; numbered = not (is_immediate r); phase = Dormant } in (
          ap (λ v. v || list_any (is_task_of here) old) (agrees ticket (connection_of r) unit (itt r)),
          each-weaken (λ (n : Entered). list_any (is_task_of n) old ≡ true) (λ (n : Entered). (is_task_of n task || list_any (is_task_of n) old) ≡ true) (filter_map (entered_as r) item)
              (λ n k. or_second (is_task_of n task) (list_any (is_task_of n) old) k) rest,
        )
    by_effect (Enable ticket unit) rest = rest
    by_effect (Leave ticket unit) rest = rest
    by_effect (Send conn stat_sn reply) rest = rest
    by_effect (CloseConn conn) rest = rest
    by_effect CloseSession rest = rest
    by_effect (Ignore why) rest = rest

module _ (item : List Effect) (ts : List Task) where
  stays : (r : Option Request) (e : Entered) → list_any (is_task_of e) ts ≡ true → list_any (is_task_of e) (entered_tasks r item ts) ≡ true
  stays (Some r) e k = list_any-append (is_task_of e) ts (filter_map (task_entered r) item) ∙ ap (λ v. v || list_any (is_task_of e) (filter_map (task_entered r) item)) k
  stays None e k = k

  comes : (r : Option Request) → EachOf (λ (e : Entered). list_any (is_task_of e) (entered_tasks r item ts) ≡ true) (elim r [ Some q ↦ filter_map (entered_as q) item | None ↦ [] ])
  comes (Some r) =
      each-weaken (λ (e : Entered). list_any (is_task_of e) (filter_map (task_entered r) item) ≡ true) (λ (e : Entered). list_any (is_task_of e) (ts ++ filter_map (task_entered r) item) ≡ true) (filter_map (entered_as r) item)
      (λ e k. list_any-append (is_task_of e) ts (filter_map (task_entered r) item) ∙ or_second (list_any (is_task_of e) ts) (list_any (is_task_of e) (filter_map (task_entered r) item)) k) (new_tasks r item)
  comes None = tt

pub have_item : (items : List (List Effect)) (item : List Effect) (ts : List Task) → HaveTasks items ts → HaveTasks (items ++ item ∷ []) (entered_tasks (executing item) item ts)
have_item items item ts h =
    subst (EachOf (λ (e : Entered). list_any (is_task_of e) (entered_tasks (executing item) item ts) ≡ true))
    (sym (flat_map-append entered_in items (item ∷ []) ∙ ap (λ es. flat_map entered_in items ++ es) (append-nil (entered_in item))))
    (each-append (λ (e : Entered). list_any (is_task_of e) (entered_tasks (executing item) item ts) ≡ true) (flat_map entered_in items) (entered_in item)
    (each-weaken (λ (e : Entered). list_any (is_task_of e) ts ≡ true) (λ (e : Entered). list_any (is_task_of e) (entered_tasks (executing item) item ts) ≡ true) (flat_map entered_in items)
    (λ e k. stays item ts (executing item) e k) h) (comes item ts (executing item)))
