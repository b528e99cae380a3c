-- What a new answer aims at, in both.
use Rattle.std.proofs.Common.{◌≡◌, ℕ, ◌≤◌, ◌==◌, ◌||◌, cond, Bool, true, false, List, [], ◌∷◌, length, filter_map, Option, Some, None, refl, ap, sym, ◌∙◌, arith, eq-eqb, ne_eqb}
use Rattle.std.specs.List.{list_any}
use Rattle.std.proofs.lemmas.Bool.{eqb-true, false≢true, true≢false}
use Rattle.std.proofs.lemmas.List.Folds.{list_any-append}
use Rattle.iscsi_rules.specs.declared.effect.Effect.{Effect}
use Rattle.iscsi_rules.specs.declared.effect.Effect.TheVariants.{Deliver, Immediate, Wait, Void, Empty, Enter, Enable, Leave, Send, CloseConn, CloseSession, Ignore}
use Rattle.iscsi_rules.specs.promises.Closes.{is_session_close}
use Rattle.iscsi_outbox_rules.specs.rules.Calls.{Opening}
use Rattle.iscsi_outbox_rules.specs.rules.Boxes.{Task, Box}
use Rattle.iscsi_outbox_rules.specs.rules.Words.{contains}
use Rattle.iscsi_outbox_rules.specs.rules.Items.{closed_in as closed_in_box}
use Rattle.iscsi_outbox_state.specs.declared.lane.Aim.{Aim}
use Rattle.iscsi_outbox_state.specs.declared.lane.Aim.TheVariants.{Conn, Session, Nothing}
use Rattle.iscsi_outbox_state.specs.Lane.{aims_at}
use Rattle.iscsi_outbox_steps.specs.State.{State, place_of}
use Rattle.iscsi_outbox_steps.specs.Steps.{aim_of_logout}
use Rattle.iscsi_tracked.specs.declared.command.Command.{Command}
use Rattle.iscsi_outbox_law.specs.private.Commands.{is_under_way, link_in}
use Rattle.iscsi_outbox_law.specs.private.Lanes.{left_of}
use Rattle.iscsi_outbox_law.specs.private.Sound.{conn_closed}
use Rattle.iscsi_outbox_law.specs.private.Stands.{Stands}
use Rattle.iscsi_outbox_law.proofs.general.PlaceLemmas.{AreApart, IsPlace, conns_of, none_here, one_place}
use Rattle.iscsi_outbox_law.proofs.connections.Standing.{stands_there}

-- ---- a Logout's: the connections that its item closes

none_closed : (b : Box) (item : List Effect) → list_any is_session_close item ≡ false → length (filter_map conn_closed item) ≡ 0 → closed_in_box b item ≡ []
none_closed b [] whole none = refl
none_closed b (Deliver r ∷ item) whole none = none_closed b item whole none
none_closed b (Immediate r ∷ item) whole none = none_closed b item whole none
none_closed b (Wait r ∷ item) whole none = none_closed b item whole none
none_closed b (Void sn ∷ item) whole none = none_closed b item whole none
none_closed b (Empty sn ∷ item) whole none = none_closed b item whole none
none_closed b (Enter ticket unit attr ∷ item) whole none = none_closed b item whole none
none_closed b (Enable ticket unit ∷ item) whole none = none_closed b item whole none
none_closed b (Leave ticket unit ∷ item) whole none = none_closed b item whole none
none_closed b (Send conn stat_sn reply ∷ item) whole none = none_closed b item whole none
none_closed b (CloseConn conn ∷ item) whole none = absurd (omega (arith, none))
none_closed b (CloseSession ∷ item) whole none = absurd (true≢false whole)
none_closed b (Ignore why ∷ item) whole none = none_closed b item whole none

or_yes : (w : Bool) → (w || true) ≡ true
or_yes true = refl
or_yes false = refl

-- a session's close is one of all its connections
all_closed : (b : Box) (cid : ℕ) → contains (conns_of b.links) cid ≡ true → (item : List Effect) → list_any is_session_close item ≡ true → contains (closed_in_box b item) cid ≡ true
all_closed b cid known [] some = absurd (false≢true some)
all_closed b cid known (Deliver r ∷ item) some = all_closed b cid known item some
all_closed b cid known (Immediate r ∷ item) some = all_closed b cid known item some
all_closed b cid known (Wait r ∷ item) some = all_closed b cid known item some
all_closed b cid known (Void sn ∷ item) some = all_closed b cid known item some
all_closed b cid known (Empty sn ∷ item) some = all_closed b cid known item some
all_closed b cid known (Enter ticket unit attr ∷ item) some = all_closed b cid known item some
all_closed b cid known (Enable ticket unit ∷ item) some = all_closed b cid known item some
all_closed b cid known (Leave ticket unit ∷ item) some = all_closed b cid known item some
all_closed b cid known (Send conn stat_sn reply ∷ item) some = all_closed b cid known item some
all_closed b cid known (CloseConn conn ∷ item) some = ap (λ (w : Bool). (conn == cid) || w) (all_closed b cid known item some) ∙ or_yes (conn == cid)
all_closed b cid known (CloseSession ∷ item) some = list_any-append (λ k. k == cid) (conns_of b.links) (closed_in_box b item) ∙ ap (λ (w : Bool). w || contains (closed_in_box b item) cid) known
all_closed b cid known (Ignore why ∷ item) some = all_closed b cid known item some

module _ (o : Opening) (s : State) (b : Box) (h : Stands o s b) (apart : AreApart (conns_of b.links)) (before : Box) (same : conns_of before.links ≡ conns_of b.links) (t : Task) (d : Command) (home : place_of s t.conn ≡ Some d.conn) where
  at : IsPlace b.links t.conn d.conn
  at = stands_there (is_under_way o b.links) o s b h t.conn d.conn home

  known : contains (conns_of before.links) t.conn ≡ true
  known = ap (λ cs. contains cs t.conn) same ∙ by_known (contains (conns_of b.links) t.conn) refl
    where
      by_known : (w : Bool) → contains (conns_of b.links) t.conn ≡ w → contains (conns_of b.links) t.conn ≡ true
      by_known true is = is
      by_known false is = absurd (none_here b.links t.conn d.conn is at.within at.is)

  one_conn : (cid : ℕ) (x : Option ℕ) → place_of s cid ≡ x → aims_at (elim x as (λ (y : Option ℕ). Aim) [ Some conn ↦ Conn conn | None ↦ Nothing ]) (left_of d) ≡ (cid == t.conn)
  one_conn cid None none = sym (ne_eqb cid t.conn (λ e. (let z : None ≡ Some d.conn = sym none ∙ ap (place_of s) e ∙ home in absurd cc)))
  one_conn cid (Some p) found = by_same (cid == t.conn) refl
    where
      k : IsPlace b.links cid p
      k = stands_there (is_under_way o b.links) o s b h cid p found

      by_same : (w : Bool) → (cid == t.conn) ≡ w → (d.conn == p) ≡ (cid == t.conn)
      by_same true is = eq-eqb d.conn p (one_place b.links d.conn p apart at.within k.within (at.is ∙ sym (eqb-true cid t.conn is) ∙ sym k.is)) ∙ sym is
      by_same false isnt = ne_eqb d.conn p (λ e. false≢true (sym isnt ∙ eq-eqb cid t.conn (sym k.is ∙ ap (λ n. (link_in b.links n).conn) (sym e) ∙ at.is))) ∙ sym isnt

  -- a Logout aims at the commands of the connections that its item closes
  pub logout_aims : (item : List Effect) → length (filter_map conn_closed item) ≤ 1 → aims_at (aim_of_logout item s) (left_of d) ≡ contains (closed_in_box before item) t.conn
  logout_aims [] one = refl
  logout_aims (Deliver r ∷ item) one = logout_aims item one
  logout_aims (Immediate r ∷ item) one = logout_aims item one
  logout_aims (Wait r ∷ item) one = logout_aims item one
  logout_aims (Void sn ∷ item) one = logout_aims item one
  logout_aims (Empty sn ∷ item) one = logout_aims item one
  logout_aims (Enter ticket unit attr ∷ item) one = logout_aims item one
  logout_aims (Enable ticket unit ∷ item) one = logout_aims item one
  logout_aims (Leave ticket unit ∷ item) one = logout_aims item one
  logout_aims (Send conn stat_sn reply ∷ item) one = logout_aims item one
  logout_aims (CloseConn cid ∷ item) one = by_whole (list_any is_session_close item) refl
    where
      or_no : (w : Bool) → (w || false) ≡ w
      or_no true = refl
      or_no false = refl

      by_whole : (w : Bool) → list_any is_session_close item ≡ w → aims_at (cond w Session (elim (place_of s cid) as (λ (y : Option ℕ). Aim) [ Some conn ↦ Conn conn | None ↦ Nothing ])) (left_of d) ≡ ((cid == t.conn) || contains (closed_in_box before item) t.conn)
      by_whole true whole = sym (ap (λ (u : Bool). (cid == t.conn) || u) (all_closed before t.conn known item whole) ∙ or_yes (cid == t.conn))
      by_whole false whole =
          one_conn cid (place_of s cid) refl
          ∙ sym (ap (λ cs. (cid == t.conn) || contains cs t.conn) (none_closed before item whole (let z : length (filter_map conn_closed item) ≡ 0 = omega (arith, one) in z)) ∙ or_no (cid == t.conn))
  logout_aims (CloseSession ∷ item) one = sym (all_closed before t.conn known (CloseSession ∷ item) refl)
  logout_aims (Ignore why ∷ item) one = logout_aims item one
