-- The numbers of what goes out, and on which connections it does.
use Rattle.std.proofs.Common.{◌≡◌, ℕ, ⊎_elim, ◌==◌, not, true, List, [], ◌∷◌, ◌++◌, map, Some, refl, ap, sym, subst, ◌∙◌}
use Rattle.std.proofs.lemmas.Bool.{eqb-true}
use Rattle.iscsi_rules.proofs.general.BoolLemmas.{and_parts, not_true}
use Rattle.iscsi_rules.proofs.general.ListLemmas.{first_itself}
use Rattle.iscsi_outbox_rules.specs.rules.Calls.{Opening, Call}
use Rattle.iscsi_outbox_rules.specs.rules.Boxes.{Outgoing, Handed, Link, Box}
use Rattle.iscsi_outbox_rules.specs.rules.Calls.{Nexts}
use Rattle.iscsi_outbox_rules.specs.rules.Handing.{Hands, handed_as}
use Rattle.iscsi_outbox_rules.specs.rules.Run.{Gives, after_call, answered}
use Rattle.iscsi_outbox_rules.specs.promises.Deeds.{Deed, items_in, handed_on, deeds_of, handed_in_deed, has_joined, was_lost}
use Rattle.iscsi_outbox_rules.specs.promises.Numbers.{in_sequence, joined_with, CountStatSns, ShowsExp}
use Rattle.iscsi_outbox_rules.specs.promises.Closed.{NoneUnjoined, NoneLost}
use Rattle.iscsi_outbox_rules.proofs.general.EachLemmas.{each-first_of}
use Rattle.iscsi_outbox_rules.proofs.general.Cuts.{Handing, at_handing}
use Rattle.iscsi_outbox_rules.proofs.general.Linkwise.{Stands}
use Rattle.iscsi_outbox_rules.proofs.general.Callwise.{call_keeps}
use Rattle.iscsi_outbox_rules.proofs.general.Chosen.{Chosen, chosen_from}
use Rattle.iscsi_outbox_rules.proofs.general.LinkRuns.{some_number, hands, LinkShows, Shows, FitEntry, link_calls, link_starts}
use Rattle.iscsi_outbox_rules.proofs.general.DeedLemmas.{Last, last_on, some_on, handed_on-append, has_joined_with, joined_with-stays}
use Rattle.std.proofs.lemmas.List.{append-nil}
use Rattle.iscsi_outbox_rules.proofs.numbers.ExpLemmas.{ExpStands, exp_calls}

abbrev pub BoxShows : List Deed → Box → Type 0
BoxShows ds b = Stands (Shows ds) FitEntry (items_in ds) b

pub box_shows : (o : Opening) (ds : List Deed) (b : Box) (c : Call) → BoxShows ds b → BoxShows (ds ++ (c, answered o b c) ∷ []) (after_call o b c)
box_shows o ds b c h = call_keeps o Shows FitEntry (link_calls o) ds b c h

-- what stands as a PDU is handed out
pub record Moment (o : Opening) (ds : List Deed) (conn : ℕ) (h : Handed) : Type 0 where
  pub box : Box
  pub stands : BoxShows ds box
  pub handing : Handing o box conn h
  pub from : Chosen o box handing.link handing.out
  pub at : handing.link.conn ≡ conn
  pub link : LinkShows ds handing.link
  pub is_open : (handing.link.joined ≡ true) × (not handing.link.lost ≡ true)

pub moment : (o : Opening) (cs : List Call) (before after : List Deed) (deed : Deed) (conn : ℕ) (h : Handed) → before ++ deed ∷ after ≡ deeds_of o cs → handed_in_deed deed ≡ Some (conn, h) → Moment o before conn h
moment o cs before after deed conn h whole shown =
    let m = at_handing o cs BoxShows (box_shows o) (link_starts o) before after deed conn h whole shown in
    let b : Box = m.0 in
    let n : Handing o b conn h = m.2 in
    let from : Chosen o b n.link n.out = chosen_from o b n.link n.out n.chosen_is in
    record {
      box = b;
      stands = m.1;
      handing = n;
      from = from;
      at = eqb-true n.link.conn conn (first_itself (λ (l : Link). l.conn == conn) b.links n.link n.found);
      link = each-first_of (LinkShows before) (λ (l : Link). l.conn == conn) b.links n.link n.found m.1.links;
      is_open = and_parts n.link.joined (not n.link.lost) from.open_is;
    }

pub none_unjoined : (o : Opening) (cs : List Call) → NoneUnjoined (deeds_of o cs)
none_unjoined o cs before after deed c h whole shown =
    let m : Moment o before c h = moment o cs before after deed c h whole shown in
    ap (has_joined before) (sym m.at) ∙ sym m.link.joined ∙ m.is_open.0

pub none_lost : (o : Opening) (cs : List Call) → NoneLost (deeds_of o cs)
none_lost o cs before after deed c h whole shown =
    let m : Moment o before c h = moment o cs before after deed c h whole shown in
    ap (was_lost before) (sym m.at) ∙ sym m.link.lost ∙ not_true m.handing.link.lost m.is_open.1

pub shows_exp : (o : Opening) (cs : List Call) → ShowsExp o (deeds_of o cs)
shows_exp o cs before after deed c h whole shown =
    let m = at_handing o cs (ExpStands o) (exp_calls o) refl before after deed c h whole shown in
    let n : Handing o m.0 c h = m.2 in
    ap (λ (g : Handed). g.exp) n.is ∙ m.1

-- the StatSNs on a connection, as the last one was handed out there
pub counts_stat_sns : (o : Opening) (cs : List Call) → CountStatSns (deeds_of o cs)
counts_stat_sns o cs conn first joined =
    ⊎_elim (λ none. subst (λ hs. map (λ (h : Handed). h.stat_sn) hs ≡ in_sequence first hs) (sym none) refl) by_last (last_on conn (deeds_of o cs))
  where
    by_last : Last conn (deeds_of o cs) → map (λ (h : Handed). h.stat_sn) (handed_on conn (deeds_of o cs)) ≡ in_sequence first (handed_on conn (deeds_of o cs))
    by_last l =
        let m : Moment o l.before conn l.handed = moment o cs l.before l.after l.deed conn l.handed l.whole l.shown in
        let link : Link = m.handing.link in
        let out : Outgoing = m.handing.out in
        let h : Handed = handed_as o m.box link out in
        let deed : Deed = (Nexts conn, Gives (Hands h)) in
        let shows : LinkShows (l.before ++ deed ∷ []) (record link { queue = []; handed = link.handed ++ h ∷ [] }) =
        hands o l.before m.box link link out deed [] m.link m.link refl m.from (ap (λ c. Some (c, h)) (sym m.at)) refl refl tt in
        let same_deed : handed_on conn (l.deed ∷ []) ≡ handed_on conn (deed ∷ []) =
        some_on conn l.deed l.handed l.shown ∙ ap (λ g. g ∷ []) m.handing.is ∙ sym (some_on conn deed h refl) in
        let all : handed_on conn (deeds_of o cs) ≡ link.handed ++ h ∷ [] =
        ap (handed_on conn) (sym l.whole) ∙ handed_on-append conn l.before (l.deed ∷ l.after)
        ∙ ap (λ hs. handed_on conn l.before ++ hs) (handed_on-append conn (l.deed ∷ []) l.after ∙ ap (λ hs. handed_on conn (l.deed ∷ []) ++ hs) l.none_after ∙ append-nil (handed_on conn (l.deed ∷ [])) ∙ same_deed)
        ∙ sym (handed_on-append conn l.before (deed ∷ [])) ∙ ap (λ c. handed_on c (l.before ++ deed ∷ [])) (sym m.at) ∙ sym shows.handed in
        let with = has_joined_with conn l.before (none_unjoined o cs l.before l.after l.deed conn l.handed l.whole l.shown) in
        let with_all : joined_with conn (deeds_of o cs) ≡ Some with.0 = ap (joined_with conn) (sym l.whole) ∙ joined_with-stays conn l.before (l.deed ∷ l.after) with.0 with.1 in
        let same_first : with.0 ≡ first = some_number with.0 first (sym with_all ∙ joined) in
        let with_now : joined_with link.conn (l.before ++ deed ∷ []) ≡ Some first =
        ap (λ c. joined_with c (l.before ++ deed ∷ [])) m.at ∙ joined_with-stays conn l.before (deed ∷ []) with.0 with.1 ∙ ap Some same_first in
        subst (λ hs. map (λ (g : Handed). g.stat_sn) hs ≡ in_sequence first hs) (sym all) (shows.sns first with_now)
