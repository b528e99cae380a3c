-- A Logout closes several connections, one after the other: the one on which it came takes more still, and of any other one what waits is to be swept.
use Rattle.std.proofs.Common.{◌≡◌, ℕ, ◌+◌, ◌<◌, ◌==◌, ◌⊎◌, cond, Bool, true, false, List, [], ◌∷◌, ◌++◌, length, count_by, set, Option, inl, inr, refl, ap, sym, subst, ◌∙◌, ⊎_elim, arith, length-set}
use Rattle.std.proofs.lemmas.Bool.{cases_eq, cond_both, eq-eqb, eqb-true, false≢true}
use Rattle.std.proofs.lemmas.List.{get_or-set_other, length-map}
use Rattle.std.proofs.lemmas.List.Sums.{sum_by-append}
use Rattle.iscsi_rules.proofs.general.ElementLemmas.{In}
use Rattle.iscsi_outbox_rules.specs.rules.Boxes.{Box, Handed, Link}
use Rattle.iscsi_outbox_rules.specs.rules.Items.{close_all, close_one}
use Rattle.iscsi_outbox_rules.specs.rules.Queues.{at_link, drop_on, takes_more}
use Rattle.iscsi_outbox_law.specs.private.Commands.{link_in}
use Rattle.iscsi_outbox_law.specs.private.Pairs.{EachOf}
use Rattle.iscsi_outbox_law.proofs.general.PairLemmas.{each-map}
use Rattle.iscsi_outbox_law.proofs.general.PlaceLemmas.{IsPlace}
use Rattle.iscsi_requests.specs.Conns.{count_all, of_conn}
use Rattle.iscsi_requests.specs.declared.replies.WaitingReply.{WaitingReply}
use Rattle.iscsi_ffi_rules.specs.rules.Sides.{Side}
use Rattle.iscsi_ffi_steps.specs.State.{State}
use Rattle.iscsi_ffi_law.specs.Names.{Name, Note}
use Rattle.iscsi_ffi_law.specs.Parts.{IsBefore}
use Rattle.iscsi_ffi_law.specs.Stands.{AreRequests}
use Rattle.iscsi_ffi_law.specs.Uses.{count_lists, is_place}
use Rattle.iscsi_ffi_law.proofs.items.Between.{pending_as}
use Rattle.iscsi_ffi_law.proofs.logouts.ClosingBox.{all_shut, shut, shut_out}
use Rattle.iscsi_ffi_law.proofs.logouts.ClosingOther.{closes_other, cut_box, cut_conn, cut_link, cut_other, cut_long, cut_queued, cut_requests, cut_takes}
use Rattle.iscsi_ffi_law.proofs.general.Lists.{lists_set}
use Rattle.iscsi_ffi_law.proofs.calls.Moved.{IsMoved, requests_moved, with_box}
use Rattle.iscsi_ffi_law.proofs.sending.Queued.{AllQueued}
use Rattle.iscsi_ffi_law.proofs.events.Unswept.{Unswept, joined, joined_count, joined_moved, unswept_at}

-- what waits on a connection stands before what is to be swept there
moved_count : {X : Type 0} (t : X → Bool) (lists : List (List X)) (p : ℕ) (v : List X) → p < length lists → count_lists t (set lists p (v ++ of_conn p lists)) ≡ count_lists t lists + count_by t v
moved_count t lists p v within = omega (arith, lists_set t lists p (v ++ of_conn p lists) within, sum_by-append (λ x. cond (t x) 1 0) v (of_conn p lists))

count_moved : {X : Type 0} (xs ys : List (List X)) (p : ℕ) → length ys ≡ length xs → count_all (set xs p []) + count_all (set ys p (of_conn p xs ++ of_conn p ys)) ≡ count_all xs + count_all ys
count_moved xs ys p long =
    let one = joined_count (set xs p []) (set ys p (of_conn p xs ++ of_conn p ys)) (length-set ys p (of_conn p xs ++ of_conn p ys) ∙ long ∙ sym (length-set xs p [])) in
    let two = joined_count xs ys long in
    let same = ap count_all (joined_moved xs ys p long) in
    omega (arith, one, two, same)

module _ (names : List Name) (notes : List Note) (base : ℕ → ℕ) (u : Unswept) (s : State) (r : Side) (by : ℕ) (places : List ℕ) where
  abbrev state_of : List (List WaitingReply) → List (List (Option ℕ)) → State
  state_of replies noted = record s { replies = record s.replies { waiting = replies }; noted = record s.noted { handed = noted } }

  abbrev pub early : Link → Type 0
  early l = EachOf (λ (x : Handed). IsBefore r.both.box.sent x.out.sent) l.handed

  -- so far, with the outbox at this box
  pub record IsClosedTo (b : Box) : Type 0 where
    pub replies : List (List WaitingReply)
    pub noted : List (List (Option ℕ))
    pub unswept : Unswept
    pub gone : ℕ → List (Option ℕ)
    pub requests : AreRequests names notes (λ q. base q + unswept_at unswept q) gone (state_of replies noted) (with_box r b)
    pub queued : AllQueued names r.both.trace r.answers (λ q. of_conn q replies) (λ q. length (of_conn q noted)) b.links b.undue
    pub same_replies : joined replies unswept.replies ≡ joined s.replies.waiting u.replies
    pub same_noted : joined noted unswept.noted ≡ joined s.noted.handed u.noted
    pub long_replies : length replies ≡ length s.replies.waiting
    pub long_noted : length noted ≡ length s.noted.handed
    pub long_unswept : length unswept.replies ≡ length u.replies
    pub long_others : length unswept.noted ≡ length u.noted
    pub count_replies : count_all replies + count_all unswept.replies ≡ count_all s.replies.waiting + count_all u.replies
    pub count_noted : count_all noted + count_all unswept.noted ≡ count_all s.noted.handed + count_all u.noted
    pub sent : b.sent ≡ r.both.box.sent
    pub long : length b.links ≡ length r.both.box.links
    pub conn : (q : ℕ) → q < length r.both.box.links → (link_in b.links q).conn ≡ (link_in r.both.box.links q).conn
    pub takes : (q : ℕ) → q < length r.both.box.links → takes_more (link_in b.links q) ≡ true → (takes_more (link_in r.both.box.links q) ≡ true) × ((of_conn q unswept.replies ≡ of_conn q u.replies) × (of_conn q unswept.noted ≡ of_conn q u.noted))
    pub own : (q : ℕ) → q < length r.both.box.links → (link_in r.both.box.links q).conn ≡ by → takes_more (link_in r.both.box.links q) ≡ true → takes_more (link_in b.links q) ≡ true
    pub handed : EachOf early r.both.box.links → EachOf early b.links
    pub touched : (q : ℕ) → ((of_conn q unswept.replies ≡ of_conn q u.replies) × (of_conn q unswept.noted ≡ of_conn q u.noted)) ⊎ In q places

  module _ (long_replies : length s.replies.waiting ≡ length r.both.box.links) (long_noted : length s.noted.handed ≡ length r.both.box.links) (long_unswept : length u.replies ≡ length r.both.box.links) (long_others : length u.noted ≡ length r.both.box.links) where
    -- the one on which it came
    module _ (b : Box) (k : IsClosedTo b) where
      abbrev shut_box : Box
      shut_box = record b { links = at_link by shut b.links }

      shut_long : length (at_link by shut b.links) ≡ length b.links
      shut_long = length-map b.links (λ (l : Link). cond (l.conn == by) (shut l) l)

      shut_queued : AllQueued names r.both.trace r.answers (λ q. of_conn q k.replies) (λ q. length (of_conn q k.noted)) (at_link by shut b.links) b.undue
      shut_queued = all_shut names r.both.trace r.answers (λ q. of_conn q k.replies) (λ q. length (of_conn q k.noted)) by b.links b.undue k.queued

      inside : (q : ℕ) → q < length r.both.box.links → q < length b.links
      inside q short = let l = k.long in omega (arith, short, l)

      moved : IsMoved names (state_of k.replies k.noted) (with_box r b) shut_box
      moved = record {
        long = shut_long;
        sent = refl;
        queued = shut_queued.queued;
        undue = shut_queued.undue_are;
        conn = λ q within. (shut_out by b.links q (omega (arith, within, shut_long))).conn;
        left = λ q within. (shut_out by b.links q (omega (arith, within, shut_long))).left;
      }

      own_closed : IsClosedTo (record b { links = at_link by shut b.links })
      own_closed = record {
        replies = k.replies;
        noted = k.noted;
        unswept = k.unswept;
        gone = k.gone;
        requests = requests_moved names notes (λ q. base q + unswept_at k.unswept q) k.gone (state_of k.replies k.noted) (with_box r b) k.requests s.outbox shut_box (λ ticket. refl) moved;
        queued = shut_queued;
        same_replies = k.same_replies;
        same_noted = k.same_noted;
        long_replies = k.long_replies;
        long_noted = k.long_noted;
        long_unswept = k.long_unswept;
        long_others = k.long_others;
        count_replies = k.count_replies;
        count_noted = k.count_noted;
        sent = k.sent;
        long = shut_long ∙ k.long;
        conn = λ q short. (shut_out by b.links q (inside q short)).conn ∙ k.conn q short;
        takes = λ q short more. k.takes q short (sym (shut_out by b.links q (inside q short)).takes ∙ more);
        own = λ q short is more. (shut_out by b.links q (inside q short)).takes ∙ k.own q short is more;
        handed = λ h. each-map early early (λ (l : Link). cond (l.conn == by) (shut l) l) b.links (λ l q. cond_both (l.conn == by) (shut l) l early (λ is. q) (λ isnt. q)) (k.handed h);
        touched = k.touched;
      }

    -- another one
    module _ (b : Box) (k : IsClosedTo b) (c p : ℕ) (at : IsPlace r.both.box.links c p) (among : In p places) (other : (c == by) ≡ false) where
      inside' : (q : ℕ) → q < length r.both.box.links → q < length b.links
      inside' q short = let l = k.long in omega (arith, short, l)

      there : IsPlace b.links c p
      there = record { within = inside' p at.within; is = k.conn p at.within ∙ at.is }

      long1 : length k.replies ≡ length b.links
      long1 = k.long_replies ∙ long_replies ∙ sym k.long

      long2 : length k.noted ≡ length b.links
      long2 = k.long_noted ∙ long_noted ∙ sym k.long

      long3 : length k.unswept.replies ≡ length k.replies
      long3 = k.long_unswept ∙ long_unswept ∙ sym long_replies ∙ sym k.long_replies

      long4 : length k.unswept.noted ≡ length k.noted
      long4 = k.long_others ∙ long_others ∙ sym long_noted ∙ sym k.long_noted

      abbrev unswept' : Unswept
      unswept' = record { replies = set k.unswept.replies p (of_conn p k.replies ++ of_conn p k.unswept.replies); noted = set k.unswept.noted p (of_conn p k.noted ++ of_conn p k.unswept.noted) }

      abbrev before : ℕ → ℕ
      before q = base q + unswept_at k.unswept q

      abbrev s1 : State
      s1 = state_of k.replies k.noted

      abbrev gone' : ℕ → List (Option ℕ)
      gone' q = cond (q == p) (k.gone p ++ of_conn p k.noted) (k.gone q)

      cut_now : AreRequests names notes (λ q. before q + (count_by (λ (x : WaitingReply). x.request == q) (of_conn p k.replies) + count_by (is_place q) (of_conn p k.noted))) gone' (state_of (set k.replies p []) (set k.noted p [])) (with_box r (cut_box c b))
      cut_now = cut_requests names notes before k.gone s1 (with_box r b) k.requests k.queued long1 long2 c p there

      same_at : {X : Type 0} (lists : List (List X)) (v : List X) (q : ℕ) → (q ≡ p → ⊥) → of_conn q (set lists p v) ≡ of_conn q lists
      same_at lists v q apart = get_or-set_other lists p q v [] apart

      other_cut : IsClosedTo (cut_box c b)
      other_cut = record {
        replies = set k.replies p [];
        noted = set k.noted p [];
        unswept = unswept';
        gone = gone';
        requests = pending_as names notes (λ q. before q + (count_by (λ (x : WaitingReply). x.request == q) (of_conn p k.replies) + count_by (is_place q) (of_conn p k.noted))) (λ q. base q + unswept_at unswept' q) gone' (state_of (set k.replies p []) (set k.noted p [])) (with_box r (cut_box c b))
            (λ q.
            let w = there.within in
            let a = moved_count (λ (x : WaitingReply). x.request == q) k.unswept.replies p (of_conn p k.replies) (omega (arith, w, long1, long3)) in
            let d = moved_count (is_place q) k.unswept.noted p (of_conn p k.noted) (omega (arith, w, long2, long4)) in
            omega (arith, a, d)) cut_now;
        queued = cut_queued names notes before k.gone s1 (with_box r b) k.requests k.queued long1 long2 c p there;
        same_replies = joined_moved k.replies k.unswept.replies p long3 ∙ k.same_replies;
        same_noted = joined_moved k.noted k.unswept.noted p long4 ∙ k.same_noted;
        long_replies = length-set k.replies p [] ∙ k.long_replies;
        long_noted = length-set k.noted p [] ∙ k.long_noted;
        long_unswept = length-set k.unswept.replies p (of_conn p k.replies ++ of_conn p k.unswept.replies) ∙ k.long_unswept;
        long_others = length-set k.unswept.noted p (of_conn p k.noted ++ of_conn p k.unswept.noted) ∙ k.long_others;
        count_replies = count_moved k.replies k.unswept.replies p long3 ∙ k.count_replies;
        count_noted = count_moved k.noted k.unswept.noted p long4 ∙ k.count_noted;
        sent = k.sent;
        long = cut_long names notes before k.gone s1 (with_box r b) k.requests k.queued long1 long2 c p there ∙ k.long;
        conn = λ q short. cut_conn names notes before k.gone s1 (with_box r b) k.requests k.queued long1 long2 c p there q (inside' q short) ∙ k.conn q short;
        takes = λ q short more.
            let now = cut_takes names notes before k.gone s1 (with_box r b) k.requests k.queued long1 long2 c p there q (inside' q short) more in
            let old = k.takes q short now.1 in
            (old.0, (same_at k.unswept.replies (of_conn p k.replies ++ of_conn p k.unswept.replies) q now.0 ∙ old.1.0, same_at k.unswept.noted (of_conn p k.noted ++ of_conn p k.unswept.noted) q now.0 ∙ old.1.1));
        own = λ q short is more. ap takes_more (cut_other names notes before k.gone s1 (with_box r b) k.requests k.queued long1 long2 c p there q (inside' q short) (λ same. apart (sym at.is ∙ ap (λ n. (link_in r.both.box.links n).conn) (sym same) ∙ is))) ∙ k.own q short is more;
        handed = λ h. each-map early early (λ (l : Link). cond (l.conn == c) (cut_link l) l) b.links (λ l q. cond_both (l.conn == c) (cut_link l) l early (λ yes. q) (λ no. q)) (k.handed h);
        touched = λ q. ⊎_elim (λ (same : q ≡ p). inr (subst (λ n. In n places) (sym same) among))
            (λ (apart' : q ≡ p → ⊥). ⊎_elim (λ old. inl (same_at k.unswept.replies (of_conn p k.replies ++ of_conn p k.unswept.replies) q apart' ∙ old.0, same_at k.unswept.noted (of_conn p k.noted ++ of_conn p k.unswept.noted) q apart' ∙ old.1)) (λ it. inr it) (k.touched q)) (cases_eq q p);
      }
        where
          apart : c ≡ by → ⊥
          apart same = false≢true (sym other ∙ eq-eqb c by same)

    -- all of them
    pub all_closed : (cs : List ℕ) (b : Box) → EachOf (λ c. (p : ℕ) × (IsPlace r.both.box.links c p × In p places)) cs → IsClosedTo b → IsClosedTo (close_all by cs b)
    all_closed [] b each k = k
    all_closed (c ∷ cs) b each k = all_closed cs (close_one by c b) each.1 (by_own (c == by) refl)
      where
        by_own : (v : Bool) → (c == by) ≡ v → IsClosedTo (close_one by c b)
        by_own true is =
            subst IsClosedTo (sym (ap (λ v. cond v (record b { links = at_link c (λ (l : Link). record l { closed = true }) b.links }) (drop_on c (record b { links = at_link c (λ (l : Link). record l { closed = true; cut = true }) b.links }))) is
            ∙ ap (λ n. record b { links = at_link n shut b.links }) (eqb-true c by is))) (own_closed b k)
        by_own false isnt = subst IsClosedTo (sym (closes_other by c b isnt)) (other_cut b k c each.0.0 each.0.1.0 each.0.1.1 isnt)
