-- Another connection is closed by a Logout: what waits there is dropped by the rules, and by the steps it is to be swept.
use Rattle.std.proofs.Common.{◌≡◌, ℕ, ◌+◌, ◌<◌, ◌==◌, ◌&&◌, not, cond, Bool, true, false, List, [], ◌∷◌, ◌++◌, length, map, count_by, filter, Option, refl, ap, sym, subst, ◌∙◌, ⊎_elim, arith, append_assoc, ne_eqb, eq-eqb}
use Rattle.std.specs.List.{list_any}
use Rattle.std.proofs.lemmas.Bool.{cases_eq, cond_both, eqb-true, false≢true, not-true}
use Rattle.std.proofs.lemmas.List.{append-nil, get_or-set_other, get_or-set_same, length-map}
use Rattle.iscsi_rules.proofs.general.BoolLemmas.{and_parts}
use Rattle.iscsi_rules.proofs.general.CountLemmas.{count-filter}
use Rattle.iscsi_rules.proofs.general.ElementLemmas.{in-filter}
use Rattle.iscsi_outbox_rules.specs.rules.Boxes.{Answer, Box, Link}
use Rattle.iscsi_outbox_rules.specs.rules.Items.{close_one}
use Rattle.iscsi_outbox_rules.specs.rules.Queues.{at_link, drop_on, takes_more}
use Rattle.iscsi_outbox_rules.specs.rules.Run.{new_link}
use Rattle.iscsi_outbox_law.specs.private.Commands.{link_in}
use Rattle.iscsi_outbox_law.specs.private.Pairs.{EachOf, PairsOf}
use Rattle.iscsi_outbox_law.proofs.general.PairLemmas.{each-filter, pairs-weaken}
use Rattle.iscsi_outbox_law.proofs.general.PlaceLemmas.{AreApart as LinksApart, IsPlace, conns_of, one_place}
use Rattle.iscsi_requests.specs.Conns.{of_conn}
use Rattle.iscsi_requests.specs.Replies.{WaitingReplies, has_log_place}
use Rattle.iscsi_requests.specs.Unwritten.{Unwritten}
use Rattle.iscsi_requests.specs.declared.replies.WaitingReply.{WaitingReply}
use Rattle.iscsi_ffi_rules.specs.rules.Needs.{left_to_write}
use Rattle.iscsi_ffi_rules.specs.rules.Sides.{Side}
use Rattle.iscsi_ffi_steps.specs.State.{State}
use Rattle.iscsi_ffi_law.specs.Names.{Name, Note, handed_notes, note_places, waiting_notes}
use Rattle.iscsi_ffi_law.specs.Parts.{AreNotesOn, IsAbout, IsAnswered, IsConn, IsQueued, IsUndue, is_sent_at, noted_in}
use Rattle.iscsi_ffi_law.specs.Stands.{AreRequests}
use Rattle.iscsi_ffi_law.specs.Uses.{is_place}
use Rattle.iscsi_ffi_law.proofs.calls.Changed.{IsChanged, changed_to, conn_kept, requests_changed}
use Rattle.iscsi_ffi_law.proofs.logouts.Dropping.{without_handed, without_replies}
use Rattle.iscsi_ffi_law.proofs.outbox_invariants.FitLinks.{cut_twice}
use Rattle.iscsi_ffi_law.proofs.requests.Kept.{count_members, count_nothing}
use Rattle.iscsi_ffi_law.proofs.general.Lists.{lists_set}
use Rattle.iscsi_ffi_law.proofs.general.Members.{PassingAt, any_at, at_any, each_in, in_each}
use Rattle.iscsi_ffi_law.proofs.calls.Moved.{with_box}
use Rattle.iscsi_ffi_law.proofs.sending.Queued.{AllQueued, is_taking, link_map}

-- it is closed, and takes no more
abbrev pub cut_link : Link → Link
cut_link l = record l { closed = true; cut = true; queue = [] }

abbrev pub cut_links : ℕ → List Link → List Link
cut_links conn links = at_link conn cut_link links

abbrev pub cut_box : ℕ → Box → Box
cut_box conn b = record b { links = cut_links conn b.links; undue = filter (λ (a : Answer). not (a.conn == conn)) b.undue }

pub closes_other : (by conn : ℕ) (b : Box) → (conn == by) ≡ false → close_one by conn b ≡ cut_box conn b
closes_other by conn b other =
    ap (λ v. cond v (record b { links = at_link conn (λ (l : Link). record l { closed = true }) b.links }) (drop_on conn (record b { links = at_link conn (λ (l : Link). record l { closed = true; cut = true }) b.links }))) other
    ∙ ap (λ (ls : List Link). record b { links = ls; undue = filter (λ (a : Answer). not (a.conn == conn)) b.undue }) (cut_twice conn b.links)

module _ (names : List Name) (notes : List Note) (pending : ℕ → ℕ) (gone : ℕ → List (Option ℕ)) (s : State) (r : Side) (a : AreRequests names notes pending gone s r)
    (all : AllQueued names r.both.trace r.answers (λ q. of_conn q s.replies.waiting) (λ q. length (of_conn q s.noted.handed)) r.both.box.links r.both.box.undue) (long_replies : length s.replies.waiting ≡ length r.both.box.links) (long_noted : length s.noted.handed ≡ length r.both.box.links)
    (conn p : ℕ) (at : IsPlace r.both.box.links conn p) where
  abbrev pub b' : Box
  b' = cut_box conn r.both.box

  abbrev undue' : List Answer
  undue' = filter (λ (x : Answer). not (x.conn == conn)) r.both.box.undue

  abbrev cuts : Link → Link
  cuts l = cond (l.conn == conn) (cut_link l) l

  pub cut_long : length (cut_links conn r.both.box.links) ≡ length r.both.box.links
  cut_long = length-map r.both.box.links cuts

  cut_here : link_in (cut_links conn r.both.box.links) p ≡ cut_link (link_in r.both.box.links p)
  cut_here = link_map cuts r.both.box.links p at.within ∙ ap (λ v. cond v (cut_link (link_in r.both.box.links p)) (link_in r.both.box.links p)) (eq-eqb (link_in r.both.box.links p).conn conn at.is)

  apart_from : (q : ℕ) → q < length r.both.box.links → (q ≡ p → ⊥) → ((link_in r.both.box.links q).conn == conn) ≡ false
  apart_from q short other = ne_eqb (link_in r.both.box.links q).conn conn (λ same. other (one_place r.both.box.links q p all.apart short at.within (same ∙ sym at.is)))

  pub cut_other : (q : ℕ) → q < length r.both.box.links → (q ≡ p → ⊥) → link_in (cut_links conn r.both.box.links) q ≡ link_in r.both.box.links q
  cut_other q short other = link_map cuts r.both.box.links q short ∙ ap (λ v. cond v (cut_link (link_in r.both.box.links q)) (link_in r.both.box.links q)) (apart_from q short other)

  pub cut_conn : (q : ℕ) → q < length r.both.box.links → (link_in (cut_links conn r.both.box.links) q).conn ≡ (link_in r.both.box.links q).conn
  cut_conn q short = ⊎_elim
      (λ (same : q ≡ p). subst (λ k. (link_in (cut_links conn r.both.box.links) k).conn ≡ (link_in r.both.box.links k).conn) (sym same) (ap (λ (l : Link). l.conn) cut_here))
      (λ (other : q ≡ p → ⊥). ap (λ (l : Link). l.conn) (cut_other q short other)) (cases_eq q p)

  cut_left : (q : ℕ) → q < length r.both.box.links → left_to_write (link_in (cut_links conn r.both.box.links) q) ≡ left_to_write (link_in r.both.box.links q)
  cut_left q short = ⊎_elim
      (λ (same : q ≡ p). subst (λ k. left_to_write (link_in (cut_links conn r.both.box.links) k) ≡ left_to_write (link_in r.both.box.links k)) (sym same) (ap left_to_write cut_here))
      (λ (other : q ≡ p → ⊥). ap left_to_write (cut_other q short other)) (cases_eq q p)

  -- it takes no more; any other one takes as before
  pub cut_takes : (q : ℕ) → q < length r.both.box.links → takes_more (link_in (cut_links conn r.both.box.links) q) ≡ true → (q ≡ p → ⊥) × (takes_more (link_in r.both.box.links q) ≡ true)
  cut_takes q short takes = ⊎_elim
      (λ (same : q ≡ p). absurd (false≢true (and_parts ((link_in r.both.box.links p).joined && not (link_in r.both.box.links p).lost) false (ap takes_more (sym cut_here) ∙ ap (λ k. takes_more (link_in (cut_links conn r.both.box.links) k)) (sym same) ∙ takes)).1))
      (λ (other : q ≡ p → ⊥). (other, ap takes_more (sym (cut_other q short other)) ∙ takes)) (cases_eq q p)

  -- ---- what the steps keep

  abbrev pub replies' : WaitingReplies
  replies' = without_replies p s.replies

  abbrev pub noted' : Unwritten
  noted' = without_handed p s.noted

  replies_here : of_conn p (without_replies p s.replies).waiting ≡ []
  replies_here = get_or-set_same s.replies.waiting p [] [] (let w = at.within in omega (arith, w, long_replies))

  noted_here : of_conn p (without_handed p s.noted).handed ≡ []
  noted_here = get_or-set_same s.noted.handed p [] [] (let w = at.within in omega (arith, w, long_noted))

  -- ---- what waits then

  other_conn : (c : ℕ) → (c == conn) ≡ false → (place : ℕ) → count_by (λ (x : Answer). x.conn == c && is_sent_at place x.out) (filter (λ (x : Answer). not (x.conn == conn)) r.both.box.undue) ≡ count_by (λ (x : Answer). x.conn == c && is_sent_at place x.out) r.both.box.undue
  other_conn c apart' place =
      count-filter (λ (x : Answer). x.conn == c && is_sent_at place x.out) (λ (x : Answer). not (x.conn == conn)) r.both.box.undue
      ∙ count_members (λ (x : Answer). not (x.conn == conn) && (x.conn == c && is_sent_at place x.out)) (λ (x : Answer). x.conn == c && is_sent_at place x.out) r.both.box.undue (λ x there. by_conn x (x.conn == c) refl)
    where
      none : (v : Bool) → (v && false) ≡ false
      none true = refl
      none false = refl

      by_conn : (x : Answer) (v : Bool) → (x.conn == c) ≡ v → (not (x.conn == conn) && (v && is_sent_at place x.out)) ≡ (v && is_sent_at place x.out)
      by_conn x false is = none (not (x.conn == conn))
      by_conn x true is = ap (λ w. not w && is_sent_at place x.out) (ap (λ k. k == conn) (eqb-true x.conn c is) ∙ apart')

  this_conn : (place : ℕ) → count_by (λ (x : Answer). x.conn == (link_in r.both.box.links p).conn && is_sent_at place x.out) (filter (λ (x : Answer). not (x.conn == conn)) r.both.box.undue) ≡ 0
  this_conn place = count_nothing (λ (x : Answer). x.conn == (link_in r.both.box.links p).conn && is_sent_at place x.out) (filter (λ (x : Answer). not (x.conn == conn)) r.both.box.undue)
      (λ x there. ap (λ c. (x.conn == c) && is_sent_at place x.out) at.is ∙ ap (λ v. v && is_sent_at place x.out) (not-true (x.conn == conn) (in-filter (λ (y : Answer). not (y.conn == conn)) r.both.box.undue x there).1))

  pub cut_queued : AllQueued names r.both.trace r.answers (λ q. of_conn q (without_replies p s.replies).waiting) (λ q. length (of_conn q (without_handed p s.noted).handed)) (cut_links conn r.both.box.links) (filter (λ (x : Answer). not (x.conn == conn)) r.both.box.undue)
  cut_queued = record {
    queued = λ q within. ⊎_elim
        (λ (same : q ≡ p). subst (λ k. IsQueued names r.both.trace r.answers undue' (of_conn k replies'.waiting) (length (of_conn k noted'.handed)) (link_in (cut_links conn r.both.box.links) k)) (sym same)
        (subst (IsQueued names r.both.trace r.answers undue' (of_conn p replies'.waiting) (length (of_conn p noted'.handed))) (sym cut_here) (record {
          sent = λ place. ap (count_by (has_log_place place)) replies_here ∙ (let none : 0 ≡ 0 + count_by (λ (x : Answer). x.conn == (link_in r.both.box.links p).conn && is_sent_at place x.out) undue' = omega (arith, this_conn place) in none);
          noting = ap length noted_here;
          known = tt;
          covered = tt;
        })))
        (λ (other : q ≡ p → ⊥).
        let short : q < length r.both.box.links = omega (arith, within, cut_long) in
        let old = all.queued q short in
        subst (λ xs. IsQueued names r.both.trace r.answers undue' xs (length (of_conn q noted'.handed)) (link_in (cut_links conn r.both.box.links) q)) (sym (get_or-set_other s.replies.waiting p q [] [] other))
        (subst (λ xs. IsQueued names r.both.trace r.answers undue' (of_conn q s.replies.waiting) (length xs) (link_in (cut_links conn r.both.box.links) q)) (sym (get_or-set_other s.noted.handed p q [] [] other))
        (subst (IsQueued names r.both.trace r.answers undue' (of_conn q s.replies.waiting) (length (of_conn q s.noted.handed))) (sym (cut_other q short other)) (record {
          sent = λ place. let same = other_conn (link_in r.both.box.links q).conn (apart_from q short other) place in omega (arith, same, old.sent place);
          noting = old.noting;
          known = old.known;
          covered = old.covered;
        })))) (cases_eq q p);
    undue_are = each-filter (IsUndue names r.answers) (λ (x : Answer). not (x.conn == conn)) r.both.box.undue all.undue_are;
    taken = in_each (λ (x : Answer). list_any (is_taking x.conn) (cut_links conn r.both.box.links) ≡ true) undue' (λ x there.
        let parts = in-filter (λ (y : Answer). not (y.conn == conn)) r.both.box.undue x there in
        let q : PassingAt (is_taking x.conn) r.both.box.links (new_link 0) = any_at (is_taking x.conn) r.both.box.links (new_link 0) (each_in (λ (y : Answer). list_any (is_taking y.conn) r.both.box.links ≡ true) r.both.box.undue x parts.0 all.taken) in
        let conn_is = eqb-true (link_in r.both.box.links q.place).conn x.conn (and_parts ((link_in r.both.box.links q.place).conn == x.conn) (takes_more (link_in r.both.box.links q.place)) q.passes).0 in
        let elsewhere : q.place ≡ p → ⊥ = λ same. false≢true (sym (not-true (x.conn == conn) parts.1) ∙ eq-eqb x.conn conn (sym conn_is ∙ ap (λ k. (link_in r.both.box.links k).conn) same ∙ at.is)) in
        at_any (is_taking x.conn) (cut_links conn r.both.box.links) q.place (new_link 0) (let w = q.within in omega (arith, w, cut_long)) (ap (is_taking x.conn) (cut_other q.place q.within elsewhere) ∙ q.passes));
    apart = subst LinksApart (sym (conns_mapped r.both.box.links)) all.apart;
  }
    where
      conns_mapped : (links : List Link) → conns_of (map cuts links) ≡ conns_of links
      conns_mapped [] = refl
      conns_mapped (l ∷ links) = ap (λ c. c ∷ conns_of (map cuts links)) (cond_both (l.conn == conn) (cut_link l) l (λ (m : Link). m.conn ≡ l.conn) (λ is. refl) (λ isnt. refl)) ∙ ap (λ cs. l.conn ∷ cs) (conns_mapped links)

  -- ---- what is kept of requests

  abbrev pub s' : State
  s' = changed_to s s.outbox s.cookies (without_replies p s.replies) (without_handed p s.noted) s.unwritten

  -- .. with what is to be swept
  abbrev pub pending' : ℕ → ℕ
  pending' place = pending place + (count_by (λ (x : WaitingReply). x.request == place) (of_conn p s.replies.waiting) + count_by (is_place place) (of_conn p s.noted.handed))

  abbrev pub gone' : ℕ → List (Option ℕ)
  gone' q = cond (q == p) (gone p ++ of_conn p s.noted.handed) (gone q)

  short_of : (q : ℕ) → q < length (cut_links conn r.both.box.links) → q < length r.both.box.links
  short_of q within = omega (arith, within, cut_long)

  here : p < length (cut_links conn r.both.box.links) → IsConn names notes (gone p ++ of_conn p s.noted.handed) s' (with_box r b') p (link_in (cut_links conn r.both.box.links) p)
  here within =
      let c : IsConn names notes (gone p) s r p (link_in r.both.box.links p) = a.conns p at.within in
      let n : AreNotesOn notes (link_in r.both.box.links p).conn (gone p) (of_conn p s.noted.handed) (noted_in (of_conn p s.unwritten.handed) (left_to_write (link_in r.both.box.links p))) = c.noted in
      record {
        replies = subst (λ xs. EachOf (λ (x : WaitingReply). IsAnswered names r.answers x.log_place x.request) xs) (sym replies_here) tt;
        queued = cut_queued.queued p within;
        written = subst (λ hs. PairsOf (IsAbout names notes (with_box r b') (link_in (cut_links conn r.both.box.links) p).conn) (of_conn p s.unwritten.handed) hs) (sym (cut_left p at.within))
            (subst (λ k. PairsOf (IsAbout names notes (with_box r b') k) (of_conn p s.unwritten.handed) (left_to_write (link_in r.both.box.links p))) (sym (cut_conn p at.within))
            (pairs-weaken (IsAbout names notes r (link_in r.both.box.links p).conn) (IsAbout names notes (with_box r b') (link_in r.both.box.links p).conn) (of_conn p s.unwritten.handed) (left_to_write (link_in r.both.box.links p)) (λ x y k. record { named = k.named; noted = k.noted }) c.written));
        noted = record {
          gone_handed = n.gone_handed;
          gone_waiting = n.gone_waiting ++ of_conn p s.noted.handed;
          gone_are = ap (λ xs. xs ++ of_conn p s.noted.handed) n.gone_are ∙ append_assoc n.gone_handed n.gone_waiting (of_conn p s.noted.handed);
          waiting_are = ap (λ k. note_places k (waiting_notes notes)) (cut_conn p at.within) ∙ n.waiting_are ∙ sym (append-nil (n.gone_waiting ++ of_conn p s.noted.handed)) ∙ ap (λ xs. (n.gone_waiting ++ of_conn p s.noted.handed) ++ xs) (sym noted_here);
          handed_are = ap (λ k. note_places k (handed_notes notes)) (cut_conn p at.within) ∙ n.handed_are ∙ ap (λ hs. n.gone_handed ++ noted_in (of_conn p s.unwritten.handed) hs) (sym (cut_left p at.within));
        };
      }

  elsewhere : (q : ℕ) → q < length (cut_links conn r.both.box.links) → (q ≡ p → ⊥) → IsConn names notes (gone q) s' (with_box r b') q (link_in (cut_links conn r.both.box.links) q)
  elsewhere q within other =
      let short : q < length r.both.box.links = short_of q within in
      conn_kept names notes (gone q) s s' r b' q (link_in r.both.box.links q) (link_in (cut_links conn r.both.box.links) q) (a.conns q short) (get_or-set_other s.replies.waiting p q [] [] other) (get_or-set_other s.noted.handed p q [] [] other)
      refl (cut_conn q short) (cut_left q short) (cut_queued.queued q within)

  changed : IsChanged names notes pending' gone' s r s.outbox s.cookies (without_replies p s.replies) (without_handed p s.noted) s.unwritten b'
  changed = record {
    kept = a.kept;
    counted = a.counted;
    uses = λ place.
        let replies_set = lists_set (λ (x : WaitingReply). x.request == place) s.replies.waiting p [] (let w = at.within in omega (arith, w, long_replies)) in
        let noted_set = lists_set (is_place place) s.noted.handed p [] (let w = at.within in omega (arith, w, long_noted)) in
        omega (arith, replies_set, noted_set, a.uses place);
    once = λ log_place. let fewer = lists_set (has_log_place log_place) s.replies.waiting p [] (let w = at.within in omega (arith, w, long_replies)) in omega (arith, fewer, a.once log_place);
    last = a.last;
    one_use = a.one_use;
    sent = refl;
    long = cut_long;
    conn = λ q within. cut_conn q (short_of q within);
    conns = λ q within. ⊎_elim
        (λ (same : q ≡ p). subst (λ k. (k < length (cut_links conn r.both.box.links)) → IsConn names notes (gone' k) s' (with_box r b') k (link_in (cut_links conn r.both.box.links) k)) (sym same)
        (λ there. subst (λ v. IsConn names notes (cond v (gone p ++ of_conn p s.noted.handed) (gone p)) s' (with_box r b') p (link_in (cut_links conn r.both.box.links) p)) (sym (eq-eqb p p refl)) (here there)) within)
        (λ (other : q ≡ p → ⊥). subst (λ v. IsConn names notes (cond v (gone p ++ of_conn p s.noted.handed) (gone q)) s' (with_box r b') q (link_in (cut_links conn r.both.box.links) q)) (sym (ne_eqb q p other)) (elsewhere q within other))
        (cases_eq q p);
    undue = cut_queued.undue_are;
  }

  pub cut_requests : AreRequests names notes pending' gone' (changed_to s s.outbox s.cookies (without_replies p s.replies) (without_handed p s.noted) s.unwritten) (with_box r (cut_box conn r.both.box))
  cut_requests = requests_changed names notes pending pending' gone gone' s r a s.outbox s.cookies (without_replies p s.replies) (without_handed p s.noted) s.unwritten b' changed
