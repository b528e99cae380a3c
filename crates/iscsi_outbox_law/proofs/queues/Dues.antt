-- An answer is due in both.
use Rattle.std.proofs.Common.{◌≡◌, ℕ, ◌<◌, ◌==◌, ◌&&◌, ◌||◌, inl, inr, ⊎_elim, not, cond, Bool, true, false, List, [], ◌∷◌, ◌++◌, length, filter, Option, Some, None, refl, ap, sym, subst, ◌∙◌, eq-eqb}
use Rattle.std.specs.List.{list_any}
use Rattle.std.proofs.lemmas.Bool.{and_from, and_parts, eqb-true, false≢true, or_cases, or_left, or_right}
use Rattle.iscsi_outbox_rules.specs.rules.Calls.{Opening}
use Rattle.iscsi_outbox_rules.specs.rules.Boxes.{Aim as RulesAim, AtTag, AtUnit, AtConns, Dormant, Fresh, Started, Completed, Running, Gone, Phase, Task, Handed, Answer, Link, Box}
use Rattle.iscsi_outbox_rules.specs.rules.Words.{contains, has_under_way, is_left, is_left_phase, is_live_phase, is_of, is_running, is_running_phase, under_way}
use Rattle.iscsi_outbox_rules.specs.rules.Due.{goes_behind, holds, is_due as is_due_box, is_of_logout as is_of_logout_box, is_same_aim as is_same_aim_box}
use Rattle.iscsi_outbox_rules.specs.rules.Run.{new_link}
use Rattle.iscsi_outbox_state.specs.declared.lane.Aim.{Aim}
use Rattle.iscsi_outbox_state.specs.declared.lane.Aim.TheVariants.{Tag, Unit as OfUnit, Conn, Session, Nothing}
use Rattle.iscsi_outbox_state.specs.declared.lane.Left.{Left}
use Rattle.iscsi_outbox_state.specs.declared.lane.Undue.{Undue}
use Rattle.iscsi_outbox_state.specs.declared.lane.Standing.{Standing}
use Rattle.iscsi_outbox_state.specs.declared.lane.Standing.TheVariants.{Left as IsLeft, Undue as IsUndue}
use Rattle.iscsi_outbox_state.specs.Lane.{aims_at, holds_back, is_command, is_due, is_of_logout, is_same_aim}
use Rattle.iscsi_outbox_steps.specs.State.{State}
use Rattle.iscsi_outbox_steps.specs.Steps.{is_live, is_running as is_running_command}
use Rattle.iscsi_tracked.specs.declared.command.Command.{Command}
use Rattle.iscsi_tracked.specs.declared.command.Phase.{Phase as KeptPhase}
use Rattle.iscsi_tracked.specs.declared.command.Phase.TheVariants.{Dormant as KeptDormant, Fresh as KeptFresh, Started as KeptStarted, Running as KeptRunning, Gone as KeptGone}
use Rattle.iscsi_tracked.specs.Tracked.{find_place, is_out}
use Rattle.iscsi_outbox_law.specs.private.Pairs.{EachOf}
use Rattle.iscsi_outbox_law.specs.private.Commands.{is_under_way, link_in, phase_of}
use Rattle.iscsi_outbox_law.specs.private.Lanes.{AreAnswers, IsAim, IsAnswer, IsInScope, is_aimed_at, left_at, left_of}
use Rattle.iscsi_outbox_law.specs.private.Sound.{HasHome, HaveHomes}
use Rattle.iscsi_outbox_law.specs.private.Stands.{Stands}
use Rattle.iscsi_outbox_law.proofs.general.PairLemmas.{each-at}
use Rattle.iscsi_outbox_law.proofs.general.Members.{In, any_found, any_from, any_index, any_more, each-in, filter_in, find_in, index_any, same_tests}
use Rattle.iscsi_outbox_law.proofs.general.PlaceLemmas.{AreApart, IsPlace, conns_of, one_place, place_found, same_conn}
use Rattle.iscsi_outbox_law.proofs.queues.Waiting.{answers_any, live_as}
use Rattle.iscsi_outbox_law.proofs.commands.Homes.{handed_home}
use Rattle.iscsi_outbox_law.proofs.commands.LeftOut.{command_of, found_there, out_is, out_there, place_of_task, task_of}

-- ---- by the aims

data Kind : Type 0 where
  OfTag : ℕ → Kind
  OfOneUnit : ℕ → Kind
  OfLogout : Kind

kind : Aim → Kind
kind (Tag tag) = OfTag tag
kind (OfUnit unit) = OfOneUnit unit
kind (Conn conn) = OfLogout
kind Session = OfLogout
kind Nothing = OfLogout

kind_box : RulesAim → Kind
kind_box (AtTag tag unit) = OfTag tag
kind_box (AtUnit unit) = OfOneUnit unit
kind_box AtConns = OfLogout

is_logout : Kind → Bool
is_logout OfLogout = true
is_logout _ = false

same_kind : Kind → Kind → Bool
same_kind (OfTag t) (OfTag n) = n == t
same_kind (OfOneUnit t) (OfOneUnit n) = n == t
same_kind _ _ = false

kind_as : (x : Aim) (y : RulesAim) → IsAim x y → kind x ≡ kind_box y
unfolding kind kind_box
kind_as (Tag tag) (AtTag t unit) k = ap OfTag k
kind_as (OfUnit unit) (AtUnit u) k = ap OfOneUnit k
kind_as (Conn conn) AtConns k = refl
kind_as Session AtConns k = refl
kind_as Nothing AtConns k = refl
kind_as x y k = absurd k

logout_kind : (x : Aim) → is_of_logout x ≡ is_logout (kind x)
unfolding kind is_logout
logout_kind (Tag tag) = refl
logout_kind (OfUnit unit) = refl
logout_kind x = refl

logout_kind_box : (y : RulesAim) → is_of_logout_box y ≡ is_logout (kind_box y)
unfolding kind_box is_logout
logout_kind_box (AtTag t unit) = refl
logout_kind_box (AtUnit u) = refl
logout_kind_box AtConns = refl

same_kinds : (x v : Aim) → is_same_aim x v ≡ same_kind (kind x) (kind v)
unfolding kind same_kind
same_kinds (Tag tag) (Tag other) = refl
same_kinds (OfUnit unit) (OfUnit other) = refl
same_kinds x v = refl

same_kinds_box : (y w : RulesAim) → is_same_aim_box y w ≡ same_kind (kind_box y) (kind_box w)
unfolding kind_box same_kind
same_kinds_box (AtTag t unit) (AtTag n u) = refl
same_kinds_box (AtUnit u) (AtUnit n) = refl
same_kinds_box y w = refl

logout_as : (x : Aim) (y : RulesAim) → IsAim x y → is_of_logout x ≡ is_of_logout_box y
logout_as x y k = logout_kind x ∙ ap is_logout (kind_as x y k) ∙ sym (logout_kind_box y)

same_aims : (x v : Aim) (y w : RulesAim) → IsAim x y → IsAim v w → is_same_aim x v ≡ is_same_aim_box y w
same_aims x v y w k j = same_kinds x v ∙ ap (λ a. same_kind a (kind v)) (kind_as x y k) ∙ ap (same_kind (kind_box y)) (kind_as v w j) ∙ sym (same_kinds_box y w)

-- ---- lists

any_or : {A : Type 0} (p q : A → Bool) (xs : List A) → list_any (λ x. p x || q x) xs ≡ (list_any p xs || list_any q xs)
any_or p q [] = refl
any_or p q (x ∷ xs) = ap (λ (v : Bool). (p x || q x) || v) (any_or p q xs) ∙ swapped (p x) (q x) (list_any p xs) (list_any q xs)
  where
    swapped : (a b c d : Bool) → ((a || b) || (c || d)) ≡ ((a || c) || (b || d))
    swapped true b c d = refl
    swapped false true true d = refl
    swapped false true false d = refl
    swapped false false c d = refl

any_alike : {A : Type 0} (p q : A → Bool) (xs : List A) → ((x : A) → p x ≡ q x) → list_any p xs ≡ list_any q xs
any_alike p q [] same = refl
any_alike p q (x ∷ xs) same = ap (λ (v : Bool). v || list_any p xs) (same x) ∙ ap (λ (v : Bool). q x || v) (any_alike p q xs same)

in_front : {A : Type 0} (x : A) (xs ys : List A) → In x xs → In x (xs ++ ys)
in_front x [] ys at = absurd at
in_front x (z ∷ xs) ys at = ⊎_elim (λ same. inl same) (λ later. inr (in_front x xs ys later)) at

-- ---- the two ways in which an answer is held back

abbrev held_left : Undue → Standing → Bool
held_left a (IsLeft c) = aims_at a.aim c && (c.running || (not (is_of_logout a.aim) && (c.under_way && not (c.conn == a.conn))))
held_left a (IsUndue x) = false

abbrev held_behind : Undue → Standing → Bool
held_behind a (IsLeft c) = false
held_behind a (IsUndue x) = is_same_aim a.aim x.aim || (a.ends && x.conn == a.conn)

held_apart : (a : Undue) (x : Standing) → holds_back a x ≡ (held_left a x || held_behind a x)
held_apart a (IsLeft c) = or_no (aims_at a.aim c && (c.running || (not (is_of_logout a.aim) && (c.under_way && not (c.conn == a.conn)))))
  where
    or_no : (v : Bool) → v ≡ (v || false)
    or_no true = refl
    or_no false = refl
held_apart a (IsUndue x) = refl

pub running_as : (c : Command) (t : Task) → phase_of c.phase ≡ t.phase → is_running_command c ≡ is_running_phase t.phase
running_as c t same = by_phase (c.phase) ∙ ap is_running_phase same
  where
    by_phase : (p : KeptPhase) → (elim p as (λ (q : KeptPhase). Bool) [ KeptRunning ↦ true | KeptDormant ↦ false | KeptFresh ↦ false | KeptStarted ↦ false | KeptGone ↦ false ]) ≡ is_running_phase (phase_of p)
    by_phase KeptDormant = refl
    by_phase KeptFresh = refl
    by_phase KeptStarted = refl
    by_phase KeptRunning = refl
    by_phase KeptGone = refl

running_dead : (p : Phase) → is_running_phase p ≡ true → is_live_phase p ≡ false
running_dead Dormant is = absurd (false≢true is)
running_dead Fresh is = absurd (false≢true is)
running_dead Started is = absurd (false≢true is)
running_dead Completed is = absurd (false≢true is)
running_dead Running is = refl
running_dead Gone is = absurd (false≢true is)

pub running_kept : (p : Phase) (u : Bool) → is_running_phase p ≡ true → (is_live_phase p || (is_running_phase p || (is_left_phase p && u))) ≡ true
running_kept Dormant u is = absurd (false≢true is)
running_kept Fresh u is = absurd (false≢true is)
running_kept Started u is = absurd (false≢true is)
running_kept Completed u is = absurd (false≢true is)
running_kept Running u is = refl
running_kept Gone u is = absurd (false≢true is)

left_kept : (p : Phase) (u : Bool) → is_left_phase p ≡ true → u ≡ true → (is_live_phase p || (is_running_phase p || (is_left_phase p && u))) ≡ true
left_kept Dormant u left is = absurd (false≢true left)
left_kept Fresh u left is = absurd (false≢true left)
left_kept Started u left is = absurd (false≢true left)
left_kept Completed u left is = absurd (false≢true left)
left_kept Running u left is = refl
left_kept Gone u left is = is

left_dead : (p : Phase) → is_left_phase p ≡ true → is_live_phase p ≡ false
left_dead Dormant left = absurd (false≢true left)
left_dead Fresh left = absurd (false≢true left)
left_dead Started left = absurd (false≢true left)
left_dead Completed left = absurd (false≢true left)
left_dead Running left = refl
left_dead Gone left = refl

-- ---- an answer, with what stands before it

module _ (o : Opening) (s : State) (b : Box) (h : Stands o s b) (homes : HaveHomes b) (apart : AreApart (conns_of b.links)) (before behind : List Standing) (whole : s.lane.items ≡ before ++ behind) (first : List Answer)
    (firsts : AreAnswers s.limits.cids s.tracked [] before first) (a : Undue) (answer : Answer) (is : IsAnswer s.limits.cids s.tracked before a answer) (scoped : (k : ℕ) → contains answer.out.scope k ≡ true → is_left b k ≡ true) where
  -- what stands before it stands for a command that left
  stands_for : (c : Left) → In (IsLeft c) before → (d : Command) × In d s.tracked.commands × (is_live d ≡ false) × (left_of d ≡ c)
  stands_for c at =
      let there : In (IsLeft c) (filter (is_command c.command) s.lane.items) =
      filter_in (is_command c.command) s.lane.items (IsLeft c) (subst (λ (items : List Standing). In (IsLeft c) items) (sym whole) (in_front (IsLeft c) before behind at)) (eq-eqb c.command c.command refl) in
      by_found (find_place c.command s.tracked) refl (subst (λ (items : List Standing). In (IsLeft c) items) (h.left.each c.command) there)
    where
      by_live : (d : Command) (v : Bool) → In d s.tracked.commands → is_live d ≡ v → In (IsLeft c) (cond v [] (IsLeft (left_of d) ∷ [])) → (e : Command) × In e s.tracked.commands × (is_live e ≡ false) × (left_of e ≡ c)
      by_live d true kept live k = absurd k
      by_live d false kept live k = ⊎_elim (λ same. (d, kept, live, (let e : IsLeft c ≡ IsLeft (left_of d) = same in cc))) (λ never. absurd never) k

      by_found : (x : Option Command) → find_place c.command s.tracked ≡ x → In (IsLeft c) (left_at x) → (e : Command) × In e s.tracked.commands × (is_live e ≡ false) × (left_of e ≡ c)
      by_found None found k = absurd k
      by_found (Some d) found k = by_live d (is_live d) (find_in (λ (e : Command). e.place == c.command) s.tracked.commands d found).0 refl k

  at_conn : IsPlace b.links answer.conn a.conn
  at_conn = place_found s.limits.cids b.links answer.conn a.conn h.links.conns is.conn

  named_in : (d : Command) → In d s.tracked.commands → is_live d ≡ false → contains answer.out.scope d.ticket ≡ list_any (is_aimed_at a.aim d.place) before
  named_in d kept dead = each-in (IsInScope before a answer) s.tracked.commands d kept is.scope dead

  abbrev stopped_all : Bool
  stopped_all = list_any (is_running b) answer.out.scope

  abbrev arrived_all : Bool
  arrived_all = list_any (holds o answer) b.links

  in_scope : (k : ℕ) → contains answer.out.scope k ≡ true → (n : ℕ) × In n answer.out.scope × (n ≡ k)
  in_scope k some = let x : (n : ℕ) × In n answer.out.scope × ((n == k) ≡ true) = any_found (λ n. n == k) answer.out.scope some in (x.0, x.1, eqb-true x.0 k x.2)

  of_more : (y : Option ℕ) (ticket : ℕ) → contains answer.out.scope ticket ≡ true → (elim y as (λ (z : Option ℕ). Bool) [ Some n ↦ n == ticket | None ↦ false ]) ≡ true
      → (elim y as (λ (z : Option ℕ). Bool) [ Some n ↦ contains answer.out.scope n | None ↦ false ]) ≡ true
  of_more None ticket named k = k
  of_more (Some n) ticket named k = ap (contains answer.out.scope) (eqb-true n ticket k) ∙ named

  other_conn : (n : ℕ) → n < length b.links → ((link_in b.links n).conn == answer.conn) ≡ (n == a.conn)
  other_conn n lt = ap (λ c. (link_in b.links n).conn == c) (sym at_conn.is) ∙ same_conn b.links n a.conn apart lt at_conn.within

  to_box : list_any (held_left a) before ≡ true → (stopped_all || arrived_all) ≡ true
  to_box some = let x : (y : Standing) × In y before × (held_left a y ≡ true) = any_found (held_left a) before some in by_standing x.0 x.1 x.2
    where
      by_command : (c : Left) (d : Command) → In (IsLeft c) before → In d s.tracked.commands → is_live d ≡ false → left_of d ≡ c → aims_at a.aim c ≡ true
          → (c.running || (not (is_of_logout a.aim) && (c.under_way && not (c.conn == a.conn)))) ≡ true → (stopped_all || arrived_all) ≡ true
      by_command c d at kept dead same aims held =
          let named : list_any (is_aimed_at a.aim d.place) before ≡ true =
          any_from (is_aimed_at a.aim d.place) before (IsLeft c) at (and_from (c.command == d.place) (aims_at a.aim c) (eq-eqb c.command d.place (sym (ap (λ (x : Left). x.command) same))) aims) in
          let scope : contains answer.out.scope d.ticket ≡ true = named_in d kept dead ∙ named in
          let k = task_of o s b h homes apart d kept in
          ⊎_elim
          (λ running.
          let runs : is_running_phase k.0.phase ≡ true = sym (running_as d k.0 k.3.phase) ∙ ap (λ (x : Left). x.running) same ∙ running in
          let n = in_scope d.ticket scope in
          let it : is_running b n.0 ≡ true = any_from (λ (t : Task). t.ticket == n.0 && is_running_phase t.phase) b.tasks k.0 k.1
          (and_from (k.0.ticket == n.0) (is_running_phase k.0.phase) (eq-eqb k.0.ticket n.0 (sym k.3.ticket ∙ sym n.2)) runs) in
          or_left stopped_all arrived_all (any_from (is_running b) answer.out.scope n.0 n.1 it))
          (λ under.
          let one = and_parts (not (is_of_logout a.aim)) (c.under_way && not (c.conn == a.conn)) under in
          let two = and_parts (c.under_way) (not (c.conn == a.conn)) one.1 in
          let out : is_out d ≡ true = ap (λ (x : Left). x.under_way) same ∙ two.0 in
          let place : IsPlace b.links k.0.conn d.conn = place_of_task o s b h homes apart d k.0 k.3 in
          let here : has_under_way o (λ n. n == k.0.ticket) (link_in b.links d.conn) ≡ true = sym (out_there o s b h homes apart d k.0 k.1 k.3) ∙ out in
          let wide : has_under_way o (contains answer.out.scope) (link_in b.links d.conn) ≡ true =
          any_more (λ (g : Handed). is_of (λ n. n == k.0.ticket) g.out) (λ (g : Handed). is_of (contains answer.out.scope) g.out) (under_way o (link_in b.links d.conn))
          (λ g e. of_more (g.out.ticket) k.0.ticket (ap (contains answer.out.scope) (sym k.3.ticket) ∙ scope) e) here in
          let elsewhere : not ((link_in b.links d.conn).conn == answer.conn) ≡ true = ap not (other_conn d.conn place.within) ∙ ap (λ (x : Left). not (x.conn == a.conn)) same ∙ two.1 in
          let plain : not (is_of_logout_box answer.aim) ≡ true = sym (ap not (logout_as a.aim answer.aim is.aim)) ∙ one.0 in
          or_right stopped_all arrived_all
          (index_any (holds o answer) b.links d.conn (new_link 0) place.within
          (and_from (not (is_of_logout_box answer.aim) && not ((link_in b.links d.conn).conn == answer.conn)) (has_under_way o (contains answer.out.scope) (link_in b.links d.conn))
          (and_from (not (is_of_logout_box answer.aim)) (not ((link_in b.links d.conn).conn == answer.conn)) plain elsewhere) wide)))
          (or_cases (c.running) (not (is_of_logout a.aim) && (c.under_way && not (c.conn == a.conn))) held)

      by_standing : (x : Standing) → In x before → held_left a x ≡ true → (stopped_all || arrived_all) ≡ true
      by_standing (IsUndue x) at held = absurd (false≢true held)
      by_standing (IsLeft c) at held =
          let parts = and_parts (aims_at a.aim c) (c.running || (not (is_of_logout a.aim) && (c.under_way && not (c.conn == a.conn)))) held in
          let d = stands_for c at in
          by_command c d.0 at d.1 d.2 d.3 parts.0 parts.1

  -- a command of its scope stands before it, and is what it aims at
  aimed_there : (d : Command) → In d s.tracked.commands → is_live d ≡ false → contains answer.out.scope d.ticket ≡ true → (aims_at a.aim (left_of d) ≡ true) × In (IsLeft (left_of d)) before
  aimed_there d kept dead scope =
      let some : list_any (is_aimed_at a.aim d.place) before ≡ true = sym (named_in d kept dead) ∙ scope in
      let x : (y : Standing) × In y before × (is_aimed_at a.aim d.place y ≡ true) = any_found (is_aimed_at a.aim d.place) before some in
      by_standing x.0 x.1 x.2
    where
      by_standing : (x : Standing) → In x before → is_aimed_at a.aim d.place x ≡ true → (aims_at a.aim (left_of d) ≡ true) × In (IsLeft (left_of d)) before
      by_standing (IsUndue x) at aimed = absurd (false≢true aimed)
      by_standing (IsLeft c) at aimed =
          let parts = and_parts (c.command == d.place) (aims_at a.aim c) aimed in
          let e = stands_for c at in
          let place : e.0.place ≡ d.place = ap (λ (x : Left). x.command) e.3 ∙ eqb-true c.command d.place parts.0 in
          let mine : find_place d.place s.tracked ≡ Some e.0 = ap (λ n. find_place n s.tracked) (sym place) ∙ found_there s.tracked e.0 h.placed e.1 in
          let its : find_place d.place s.tracked ≡ Some d = found_there s.tracked d h.placed kept in
          let same : e.0 ≡ d = cc in
          let left : left_of d ≡ c = ap left_of (sym same) ∙ e.3 in
          (ap (aims_at a.aim) left ∙ parts.1, subst (λ (y : Left). In (IsLeft y) before) (sym left) at)

  held_so : (d : Command) → In d s.tracked.commands → is_live d ≡ false → contains answer.out.scope d.ticket ≡ true → (is_running_command d || (not (is_of_logout a.aim) && (is_out d && not (d.conn == a.conn)))) ≡ true → list_any (held_left a) before ≡ true
  held_so d kept dead scope held =
      let x = aimed_there d kept dead scope in
      any_from (held_left a) before (IsLeft (left_of d)) x.1 (and_from (aims_at a.aim (left_of d)) (is_running_command d || (not (is_of_logout a.aim) && (is_out d && not (d.conn == a.conn)))) x.0 held)

  from_running : stopped_all ≡ true → list_any (held_left a) before ≡ true
  from_running some =
      let n : (k : ℕ) × In k answer.out.scope × (is_running b k ≡ true) = any_found (is_running b) answer.out.scope some in
      let t : (x : Task) × In x b.tasks × ((x.ticket == n.0 && is_running_phase x.phase) ≡ true) = any_found (λ (x : Task). x.ticket == n.0 && is_running_phase x.phase) b.tasks n.2 in
      let parts = and_parts (t.0.ticket == n.0) (is_running_phase t.0.phase) t.2 in
      let d = command_of o s b h homes apart t.0 t.1 (running_kept t.0.phase (is_under_way o b.links t.0.ticket) parts.1) in
      let scope : contains answer.out.scope d.0.ticket ≡ true = any_from (λ k. k == d.0.ticket) answer.out.scope n.0 n.1 (eq-eqb n.0 d.0.ticket (sym (d.2.ticket ∙ eqb-true t.0.ticket n.0 parts.0))) in
      held_so d.0 d.1 (live_as d.0 t.0 d.2.phase ∙ running_dead t.0.phase parts.1) scope
      (or_left (is_running_command d.0) (not (is_of_logout a.aim) && (is_out d.0 && not (d.0.conn == a.conn))) (running_as d.0 t.0 d.2.phase ∙ parts.1))

  from_link : (n : ℕ) → n < length b.links → holds o answer (link_in b.links n) ≡ true → list_any (held_left a) before ≡ true
  from_link n lt held = by_ticket (g.0.out.ticket) refl
    where
      parts : ((not (is_of_logout_box answer.aim) && not ((link_in b.links n).conn == answer.conn)) ≡ true) × (has_under_way o (contains answer.out.scope) (link_in b.links n) ≡ true)
      parts = and_parts (not (is_of_logout_box answer.aim) && not ((link_in b.links n).conn == answer.conn)) (has_under_way o (contains answer.out.scope) (link_in b.links n)) held

      first_parts : (not (is_of_logout_box answer.aim) ≡ true) × (not ((link_in b.links n).conn == answer.conn) ≡ true)
      first_parts = and_parts (not (is_of_logout_box answer.aim)) (not ((link_in b.links n).conn == answer.conn)) parts.0

      g : (x : Handed) × In x (under_way o (link_in b.links n)) × (is_of (contains answer.out.scope) x.out ≡ true)
      g = any_found (λ (x : Handed). is_of (contains answer.out.scope) x.out) (under_way o (link_in b.links n)) parts.1

      by_ticket : (y : Option ℕ) → g.0.out.ticket ≡ y → list_any (held_left a) before ≡ true
      by_ticket None none = absurd (false≢true (sym (ap (λ (z : Option ℕ). elim z as (λ (w : Option ℕ). Bool) [ Some m ↦ contains answer.out.scope m | None ↦ false ]) none) ∙ g.2))
      by_ticket (Some k) named =
          let scope0 : contains answer.out.scope k ≡ true = sym (ap (λ (z : Option ℕ). elim z as (λ (w : Option ℕ). Bool) [ Some m ↦ contains answer.out.scope m | None ↦ false ]) named) ∙ g.2 in
          let t : (x : Task) × In x b.tasks × ((x.ticket == k && is_left_phase x.phase) ≡ true) = any_found (λ (x : Task). x.ticket == k && is_left_phase x.phase) b.tasks (scoped k scope0) in
          let two = and_parts (t.0.ticket == k) (is_left_phase t.0.phase) t.2 in
          let same : t.0.ticket ≡ k = eqb-true t.0.ticket k two.0 in
          let here : has_under_way o (λ m. m == t.0.ticket) (link_in b.links n) ≡ true =
          any_from (λ (x : Handed). is_of (λ m. m == t.0.ticket) x.out) (under_way o (link_in b.links n)) g.0 g.1
          (ap (λ (z : Option ℕ). elim z as (λ (w : Option ℕ). Bool) [ Some m ↦ m == t.0.ticket | None ↦ false ]) named ∙ eq-eqb k t.0.ticket (sym same)) in
          let under : is_under_way o b.links t.0.ticket ≡ true = index_any (has_under_way o (λ m. m == t.0.ticket)) b.links n (new_link 0) lt here in
          let d = command_of o s b h homes apart t.0 t.1 (left_kept t.0.phase (is_under_way o b.links t.0.ticket) two.1 under) in
          let home : t.0.conn ≡ (link_in b.links n).conn =
          handed_home o b.tasks t.0 (link_in b.links n) homes.ascending t.1 (each-at (λ (l : Link). EachOf (λ (x : Handed). HasHome b.tasks l.conn x.out) l.handed) b.links n (new_link 0) lt homes.handed) here in
          let place : IsPlace b.links t.0.conn d.0.conn = place_of_task o s b h homes apart d.0 t.0 d.2 in
          let at : d.0.conn ≡ n = one_place b.links d.0.conn n apart place.within lt (place.is ∙ home) in
          let out : is_out d.0 ≡ true = out_is o s b h homes apart d.0 t.0 d.2 ∙ ap (is_under_way o b.links) d.2.ticket ∙ under in
          let elsewhere : not (d.0.conn == a.conn) ≡ true = ap (λ m. not (m == a.conn)) at ∙ sym (ap not (other_conn n lt)) ∙ first_parts.1 in
          let plain : not (is_of_logout a.aim) ≡ true = ap not (logout_as a.aim answer.aim is.aim) ∙ first_parts.0 in
          held_so d.0 d.1 (live_as d.0 t.0 d.2.phase ∙ left_dead t.0.phase two.1) (ap (contains answer.out.scope) (d.2.ticket ∙ same) ∙ scope0)
          (or_right (is_running_command d.0) (not (is_of_logout a.aim) && (is_out d.0 && not (d.0.conn == a.conn)))
          (and_from (not (is_of_logout a.aim)) (is_out d.0 && not (d.0.conn == a.conn)) plain (and_from (is_out d.0) (not (d.0.conn == a.conn)) out elsewhere)))

  from_box : (stopped_all || arrived_all) ≡ true → list_any (held_left a) before ≡ true
  from_box some =
      ⊎_elim from_running
      (λ held. let x : (n : ℕ) × (n < length b.links) × (holds o answer (link_in b.links n) ≡ true) = any_index (holds o answer) b.links (new_link 0) held in from_link x.0 x.1 x.2)
      (or_cases stopped_all arrived_all some)

  -- ---- what answers stand before it

  behind_as : (pre : List Standing) (x : Undue) (y : Answer) → IsAnswer s.limits.cids s.tracked pre x y → held_behind a (IsUndue x) ≡ goes_behind answer y
  behind_as pre x y k =
      let place : IsPlace b.links y.conn x.conn = place_found s.limits.cids b.links y.conn x.conn h.links.conns k.conn in
      ap (λ (v : Bool). v || (a.ends && x.conn == a.conn)) (same_aims a.aim x.aim answer.aim y.aim is.aim k.aim)
      ∙ ap (λ (v : Bool). is_same_aim_box answer.aim y.aim || (v && x.conn == a.conn)) is.ends
      ∙ ap (λ (v : Bool). is_same_aim_box answer.aim y.aim || (contains answer.out.closes answer.conn && v)) (sym (other_conn x.conn place.within) ∙ ap (λ c. c == answer.conn) place.is)
      ∙ swapped (is_same_aim_box answer.aim y.aim) (contains answer.out.closes answer.conn) (y.conn == answer.conn)
    where
      swapped : (u v w : Bool) → (u || (v && w)) ≡ ((w && v) || u)
      swapped true true true = refl
      swapped true true false = refl
      swapped true false true = refl
      swapped true false false = refl
      swapped false true true = refl
      swapped false true false = refl
      swapped false false true = refl
      swapped false false false = refl

  pub due_is : is_due before a ≡ is_due_box o b first answer
  due_is =
      ap (λ (v : Bool). not a.uncleared && not v)
      (any_alike (holds_back a) (λ x. held_left a x || held_behind a x) before (held_apart a) ∙ any_or (held_left a) (held_behind a) before
      ∙ ap (λ (v : Bool). v || list_any (held_behind a) before) (same_tests (list_any (held_left a) before) (stopped_all || arrived_all) to_box from_box)
      ∙ ap (λ (v : Bool). (stopped_all || arrived_all) || v) (answers_any s.limits.cids s.tracked (held_behind a) (λ (y : Answer). goes_behind answer y) none_of_left behind_as [] before first firsts))
      ∙ ap (λ (v : Bool). not v && not ((stopped_all || arrived_all) || list_any (goes_behind answer) first)) is.uncleared
      ∙ regrouped stopped_all arrived_all answer.uncleared (list_any (goes_behind answer) first)
    where
      none_of_left : (c : Left) → held_behind a (IsLeft c) ≡ false
      none_of_left c = refl

      regrouped : (r v u g : Bool) → (not u && not ((r || v) || g)) ≡ (((not r && not v) && not u) && not g)
      regrouped true v true g = refl
      regrouped true v false g = refl
      regrouped false true true g = refl
      regrouped false true false g = refl
      regrouped false false true g = refl
      regrouped false false false true = refl
      regrouped false false false false = refl
