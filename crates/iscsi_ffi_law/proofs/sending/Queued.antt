-- What becomes due enters its queue: what waits on a connection, with what isn't due, stays the same.
use Rattle.std.proofs.Common.{◌≡◌, ℕ, ◌+◌, ◌<◌, ◌==◌, ◌&&◌, ◌||◌, ⊎_elim, cond, Bool, true, false, List, [], ◌∷◌, ◌++◌, length, map, count_by, Option, Some, None, is_some, refl, ap, sym, subst, ◌∙◌, arith, append_assoc}
use Rattle.std.specs.List.{list_any}
use Rattle.std.proofs.lemmas.Bool.{false≢true, eqb-true, eq-eqb, or_left, or_right, or_cases, cond_both}
use Rattle.std.proofs.lemmas.Bool.Decides.{nat_tests}
use Rattle.std.proofs.lemmas.List.{append-nil, get_or-map, length-map}
use Rattle.std.proofs.lemmas.List.Folds.{list_any-append}
use Rattle.std.proofs.lemmas.List.Sums.{sum_by-append}
use Rattle.iscsi_rules.specs.rules.Trace.{Trace}
use Rattle.iscsi_rules.proofs.general.BoolLemmas.{and_parts}
use Rattle.iscsi_rules.proofs.general.CountLemmas.{one, count-cons}
use Rattle.iscsi_outbox_rules.specs.rules.Calls.{Opening}
use Rattle.iscsi_outbox_rules.specs.rules.Boxes.{Answer, Box, Link, Notices, Outgoing, Owns, Pdu, Pings, Replies}
use Rattle.iscsi_outbox_rules.specs.rules.Words.{is_reply}
use Rattle.iscsi_outbox_rules.specs.rules.Due.{is_due, settle, settle_from}
use Rattle.iscsi_outbox_rules.specs.rules.Queues.{append, enter, takes_more}
use Rattle.iscsi_outbox_rules.specs.rules.Run.{new_link}
use Rattle.iscsi_outbox_law.specs.private.Commands.{link_in}
use Rattle.iscsi_outbox_law.specs.private.Pairs.{EachOf}
use Rattle.iscsi_outbox_law.proofs.general.PairLemmas.{each-append, each-weaken}
use Rattle.iscsi_outbox_law.proofs.general.PlaceLemmas.{AreApart as LinksApart, conns_of, one_place}
use Rattle.iscsi_requests.specs.declared.replies.WaitingReply.{WaitingReply}
use Rattle.iscsi_ffi_rules.specs.rules.Needs.{is_noted, left_to_write}
use Rattle.iscsi_ffi_law.specs.Names.{Name}
use Rattle.iscsi_ffi_law.specs.Parts.{IsCovered, IsKnownOut, IsOfCommand, IsQueued, IsReplyOf, IsUndue, covers, is_live_ticket, is_sent_at}
use Rattle.iscsi_ffi_law.proofs.general.Members.{PassingAt, any_at}

reply_unnoted : (p : Pdu) → is_reply p ≡ true → is_noted p ≡ false
reply_unnoted (Replies reply) is = refl
reply_unnoted (Owns own) is = absurd (false≢true is)
reply_unnoted (Pings tag) is = refl
reply_unnoted Notices is = refl

-- ---- a connection of a list

pub link_map : (f : Link → Link) (links : List Link) (p : ℕ) → p < length links → link_in (map f links) p ≡ f (link_in links p)
link_map f links p within = get_or-map f links p (new_link 0) (new_link 0) within

-- it goes out as before
pub record SameOut (l m : Link) : Type 0 where
  pub conn : m.conn ≡ l.conn
  pub takes : takes_more m ≡ takes_more l
  pub left : left_to_write m ≡ left_to_write l

abbrev pub is_taking : ℕ → Link → Bool
is_taking conn l = l.conn == conn && takes_more l

pub any_map : (p : Link → Bool) (f : Link → Link) (links : List Link) → ((l : Link) → p (f l) ≡ p l) → list_any p (map f links) ≡ list_any p links
any_map p f [] same = refl
any_map p f (l ∷ links) same = ap (λ v. v || list_any p (map f links)) (same l) ∙ ap (λ v. p l || v) (any_map p f links same)

pub conns_map : (f : Link → Link) (links : List Link) → ((l : Link) → (f l).conn ≡ l.conn) → conns_of (map f links) ≡ conns_of links
conns_map f [] same = refl
conns_map f (l ∷ links) same = ap (λ c. c ∷ conns_of (map f links)) (same l) ∙ ap (λ cs. l.conn ∷ cs) (conns_map f links same)

pub each-first : {A : Type 0} (P : A → Type 0) (xs ys : List A) → EachOf P (xs ++ ys) → EachOf P xs
each-first P [] ys k = tt
each-first P (x ∷ xs) ys k = (k.0, each-first P xs ys k.1)

pub each-second : {A : Type 0} (P : A → Type 0) (xs ys : List A) → EachOf P (xs ++ ys) → EachOf P ys
each-second P [] ys k = k
each-second P (x ∷ xs) ys k = each-second P xs ys k.1

-- ---- a PDU more

abbrev is_reply_with : ℕ → Outgoing → Bool
is_reply_with ticket o = is_some o.sent && elim (o.ticket) [ Some k ↦ k == ticket | None ↦ false ]

covers_more : (live : ℕ → Bool) (later : List Outgoing) (out : Outgoing) (ticket : ℕ) → covers live later ticket ≡ true → covers live (later ++ out ∷ []) ticket ≡ true
covers_more live later out ticket h =
    ⊎_elim
    (λ lives. or_left (live ticket) (list_any (is_reply_with ticket) (later ++ out ∷ [])) lives)
    (λ behind. or_right (live ticket) (list_any (is_reply_with ticket) (later ++ out ∷ [])) (list_any-append (is_reply_with ticket) later (out ∷ []) ∙ or_left (list_any (is_reply_with ticket) later) (list_any (is_reply_with ticket) (out ∷ [])) behind))
    (or_cases (live ticket) (list_any (is_reply_with ticket) later) h)

pub covered_push : (live : ℕ → Bool) (queue : List Outgoing) (out : Outgoing) → elim (out.ticket) [ Some ticket ↦ is_some out.sent || covers live [] ticket | None ↦ true ] ≡ true → IsCovered live queue → IsCovered live (queue ++ out ∷ [])
covered_push live [] out last h = (last, tt)
covered_push live (o ∷ queue) out last h = (by_ticket o.ticket h.0, covered_push live queue out last h.1)
  where
    by_ticket : (x : Option ℕ) → elim x [ Some ticket ↦ is_some o.sent || covers live queue ticket | None ↦ true ] ≡ true → elim x [ Some ticket ↦ is_some o.sent || covers live (queue ++ out ∷ []) ticket | None ↦ true ] ≡ true
    by_ticket None k = refl
    by_ticket (Some ticket) k =
        ⊎_elim
        (λ some. or_left (is_some o.sent) (covers live (queue ++ out ∷ []) ticket) some)
        (λ rest. or_right (is_some o.sent) (covers live (queue ++ out ∷ []) ticket) (covers_more live queue out ticket rest))
        (or_cases (is_some o.sent) (covers live queue ticket) k)

module _ (names : List Name) (t : Trace) (answers : List ℕ) (replies : ℕ → List WaitingReply) (noted : ℕ → ℕ) where
  -- all that waits
  pub record AllQueued (links : List Link) (undue : List Answer) : Type 0 where
    pub queued : (p : ℕ) → p < length links → IsQueued names t answers undue (replies p) (noted p) (link_in links p)
    pub undue_are : EachOf (IsUndue names answers) undue
    pub taken : EachOf (λ (a : Answer). list_any (is_taking a.conn) links ≡ true) undue
    pub apart : LinksApart (conns_of links)

  -- and what it comes to
  pub record SettledTo (links : List Link) (b : Box) : Type 0 where
    pub all : AllQueued b.links b.undue
    pub long : length b.links ≡ length links
    pub same : (p : ℕ) → p < length links → SameOut (link_in links p) (link_in b.links p)

  -- an answer that is due, as it waits
  known_due : (a : Answer) (time : ℕ) → IsUndue names answers a → IsKnownOut names t answers (record a.out { time = time })
  known_due a time u = record {
    of_reply = u.of_reply;
    of_command = subst (IsOfCommand names t) (sym u.ticket) tt;
    same = subst (IsReplyOf t answers a.out.sent) (sym u.ticket) (no_ticket a.out.sent);
    own = u.own;
  }
    where
      no_ticket : (x : Option ℕ) → IsReplyOf t answers x None
      no_ticket (Some place) = tt
      no_ticket None = tt

  abbrev entering : Answer → ℕ → Link → Link
  entering a time l = cond (l.conn == a.conn) (append (record a.out { time = time }) l) l

  same_entered : (a : Answer) (time : ℕ) (l : Link) → SameOut l (entering a time l)
  same_entered a time l =
      cond_both (l.conn == a.conn) (append (record a.out { time = time }) l) l (SameOut l)
      (λ is. cond_both (takes_more l) (record l { queue = l.queue ++ record a.out { time = time } ∷ [] }) l (SameOut l)
      (λ takes. record { conn = refl; takes = refl; left = refl }) (λ not_so. record { conn = refl; takes = refl; left = refl }))
      (λ isnt. record { conn = refl; takes = refl; left = refl })

  -- one becomes due
  one_due : (a : Answer) (time : ℕ) (before rest : List Answer) (links : List Link) → AllQueued links (before ++ a ∷ rest) → AllQueued (map (entering a time) links) (before ++ rest)
  one_due a time before rest links h = record {
    queued = λ p within.
        let short : p < length links = omega (arith, within, length-map links (entering a time)) in
        subst (IsQueued names t answers (before ++ rest) (replies p) (noted p)) (sym (link_map (entering a time) links p short)) (here p short (link_in links p) refl (h.queued p short));
    undue_are = each-append (IsUndue names answers) before rest (each-first (IsUndue names answers) before (a ∷ rest) h.undue_are) (each-second (IsUndue names answers) before (a ∷ rest) h.undue_are).1;
    taken = each-weaken (λ (x : Answer). list_any (is_taking x.conn) links ≡ true) (λ (x : Answer). list_any (is_taking x.conn) (map (entering a time) links) ≡ true) (before ++ rest)
        (λ x k. any_map (is_taking x.conn) (entering a time) links (λ l. let s : SameOut l (entering a time l) = same_entered a time l in ap (λ c. c == x.conn && takes_more (entering a time l)) s.conn ∙ ap (λ v. l.conn == x.conn && v) s.takes) ∙ k)
        (each-append (λ (x : Answer). list_any (is_taking x.conn) links ≡ true) before rest (each-first (λ (x : Answer). list_any (is_taking x.conn) links ≡ true) before (a ∷ rest) h.taken) (each-second (λ (x : Answer). list_any (is_taking x.conn) links ≡ true) before (a ∷ rest) h.taken).1);
    apart = subst LinksApart (sym (conns_map (entering a time) links (λ l. (same_entered a time l).conn))) h.apart;
  }
    where
      u : IsUndue names answers a
      u = (each-second (IsUndue names answers) before (a ∷ rest) h.undue_are).0

      -- the connection that it goes out on takes it
      takes_here : (p : ℕ) → p < length links → (link_in links p).conn ≡ a.conn → takes_more (link_in links p) ≡ true
      takes_here p within same =
          let at : PassingAt (is_taking a.conn) links (new_link 0) = any_at (is_taking a.conn) links (new_link 0) (each-second (λ (x : Answer). list_any (is_taking x.conn) links ≡ true) before (a ∷ rest) h.taken).0 in
          let parts = and_parts ((link_in links at.place).conn == a.conn) (takes_more (link_in links at.place)) at.passes in
          let one : at.place ≡ p = one_place links at.place p h.apart at.within within (eqb-true (link_in links at.place).conn a.conn parts.0 ∙ sym same) in
          ap (λ q. takes_more (link_in links q)) (sym one) ∙ parts.1

      undue_split : (conn place : ℕ) → count_by (λ (x : Answer). x.conn == conn && is_sent_at place x.out) (before ++ a ∷ rest) ≡ one (a.conn == conn && is_sent_at place a.out) + count_by (λ (x : Answer). x.conn == conn && is_sent_at place x.out) (before ++ rest)
      undue_split conn place = omega (
        arith,
        sum_by-append (λ (x : Answer). cond (x.conn == conn && is_sent_at place x.out) 1 0) before (a ∷ rest),
        sum_by-append (λ (x : Answer). cond (x.conn == conn && is_sent_at place x.out) 1 0) before rest,
        count-cons (λ (x : Answer). x.conn == conn && is_sent_at place x.out) a rest,
      )

      here : (p : ℕ) → p < length links → (l : Link) → link_in links p ≡ l → IsQueued names t answers (before ++ a ∷ rest) (replies p) (noted p) l → IsQueued names t answers (before ++ rest) (replies p) (noted p) (entering a time l)
      here p within l at q = by_conn (l.conn == a.conn) refl
        where
          out : Outgoing
          out = record a.out { time = time }

          by_conn : (v : Bool) → (l.conn == a.conn) ≡ v → IsQueued names t answers (before ++ rest) (replies p) (noted p) (cond v (append (record a.out { time = time }) l) l)
          by_conn false is = record {
            sent = λ place.
                let none : one (a.conn == l.conn && is_sent_at place a.out) ≡ 0 = ap (λ v. one (v && is_sent_at place a.out)) (turned a.conn l.conn ∙ is) in
                omega (arith, q.sent place, undue_split l.conn place, none);
            noting = q.noting;
            known = q.known;
            covered = q.covered;
          }
            where
              turned : (x y : ℕ) → (x == y) ≡ (y == x)
              turned x y = grind (arith, nat_tests)
          by_conn true is =
              let conn : l.conn ≡ a.conn = eqb-true l.conn a.conn is in
              let takes : takes_more l ≡ true = ap takes_more (sym at) ∙ takes_here p within (ap (λ (m : Link). m.conn) at ∙ conn) in
              subst (λ v. IsQueued names t answers (before ++ rest) (replies p) (noted p) (cond v (record l { queue = l.queue ++ record a.out { time = time } ∷ [] }) l)) (sym takes) (record {
                sent = λ place.
                    let here' : one (a.conn == l.conn && is_sent_at place a.out) ≡ one (is_sent_at place a.out) = ap (λ v. one (v && is_sent_at place a.out)) (eq-eqb a.conn l.conn (sym conn)) in
                    omega (
                      arith,
                      q.sent place,
                      undue_split l.conn place,
                      here',
                      sum_by-append (λ (o : Outgoing). cond (is_sent_at place o) 1 0) l.queue (record a.out { time = time } ∷ []),
                      count-cons (is_sent_at place) (record a.out { time = time }) [],
                    );
                noting =
                    let none : one (is_noted a.out.pdu) ≡ 0 = ap one (reply_unnoted a.out.pdu u.reply) in
                    omega (arith, q.noting, none, sum_by-append (λ (o : Outgoing). cond (is_noted o.pdu) 1 0) l.queue (record a.out { time = time } ∷ []), count-cons (λ (o : Outgoing). is_noted o.pdu) (record a.out { time = time }) []);
                known = each-append (IsKnownOut names t answers) l.queue (record a.out { time = time } ∷ []) q.known (known_due a time u, tt);
                covered = covered_push (is_live_ticket t) l.queue (record a.out { time = time }) (ap (λ (x : Option ℕ). elim x [ Some ticket ↦ is_some a.out.sent || covers (is_live_ticket t) [] ticket | None ↦ true ]) u.ticket) q.covered;
              })

  settles : (o : Opening) (before rest : List Answer) (b : Box) → AllQueued b.links (before ++ rest) → SettledTo b.links (settle_from o before rest b)
  settles o before [] b h = record { all = subst (AllQueued b.links) (append-nil before) h; long = refl; same = λ p within. record { conn = refl; takes = refl; left = refl } }
  settles o before (a ∷ rest) b h =
      cond_both (is_due o b before a) (settle_from o before rest (enter a.conn a.out b)) (settle_from o (before ++ a ∷ []) rest b) (SettledTo b.links)
      (λ due.
      let k : SettledTo (map (entering a b.time) b.links) (settle_from o before rest (enter a.conn a.out b)) = settles o before rest (enter a.conn a.out b) (one_due a b.time before rest b.links h) in
      let many = length-map b.links (entering a b.time) in
      record {
        all = k.all;
        long = k.long ∙ many;
        same = λ p within.
            let x : SameOut (link_in (map (entering a b.time) b.links) p) (link_in (settle_from o before rest (enter a.conn a.out b)).links p) = k.same p (omega (arith, within, many)) in
            let y : SameOut (link_in b.links p) (link_in (map (entering a b.time) b.links) p) = subst (SameOut (link_in b.links p)) (sym (link_map (entering a b.time) b.links p within)) (same_entered a b.time (link_in b.links p)) in
            record { conn = x.conn ∙ y.conn; takes = x.takes ∙ y.takes; left = x.left ∙ y.left };
      })
      (λ undue. settles o (before ++ a ∷ []) rest b (subst (AllQueued b.links) (sym (append_assoc before (a ∷ []) rest)) h))

  pub settled_to : (o : Opening) (b : Box) → AllQueued b.links b.undue → SettledTo b.links (settle o b)
  settled_to o b h = settles o [] b.undue b h
