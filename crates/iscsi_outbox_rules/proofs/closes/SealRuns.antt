-- On a connection the answer that closes it is the last that waits or went out.
use Rattle.std.proofs.Common.{◌≡◌, ℕ, ◌==◌, ◌&&◌, ◌+◌, not, cond, Bool, true, false, List, [], ◌∷◌, ◌++◌, map, filter, Option, Some, None, refl, ap, sym, subst, ◌∙◌, eq-eqb}
use Rattle.std.specs.List.{list_any}
use Rattle.std.proofs.lemmas.Bool.{cond_both, false≢true, eqb-true}
use Rattle.std.proofs.lemmas.List.{append_assoc, append-nil}
use Rattle.iscsi_wire.specs.Fields.{connection_of}
use Rattle.iscsi_wire.specs.declared.reply.Reply.{Reply}
use Rattle.iscsi_wire.specs.declared.request.Request.{Request}
use Rattle.iscsi_rules.specs.declared.effect.Effect.{Effect}
use Rattle.iscsi_rules.proofs.general.BoolLemmas.{and_second, or_none, or_first, not_true}
use Rattle.iscsi_outbox_rules.specs.rules.Calls.{Opening}
use Rattle.iscsi_outbox_rules.specs.rules.Boxes.{Outgoing, Handed, Aim, Answer, Link, Box}
use Rattle.iscsi_outbox_rules.specs.rules.Words.{contains, is_running}
use Rattle.iscsi_outbox_rules.specs.rules.Queues.{at_link, takes_more, append, enter, without, emptied, drop_on}
use Rattle.iscsi_outbox_rules.specs.rules.Due.{holds, goes_behind, is_same_aim, is_due, settle_from}
use Rattle.iscsi_outbox_rules.specs.rules.Items.{leave, enter_tasks, close_one, close_all, close, outgoing, answer, send_as, aim, send}
use Rattle.iscsi_outbox_rules.proofs.general.EachLemmas.{EachOf, each-append, each-second, each-weaken, each-filter}
use Rattle.iscsi_outbox_rules.proofs.general.SortedLemmas.{SortedBy, sorted-push, sorted-filter, sorted-fewer, each-fewer}
use Rattle.iscsi_outbox_rules.proofs.general.FoundLemmas.{find_link, found-conn, find-map}
use Rattle.iscsi_outbox_rules.proofs.closes.MarkRuns.{is_closing, closed_by, closed_by-more}

sorted-second : {A : Type 0} (R : A → A → Type 0) (xs ys : List A) → SortedBy R (xs ++ ys) → SortedBy R ys
sorted-second R [] ys h = h
sorted-second R (x ∷ xs) ys h = sorted-second R xs ys h.1

each-none : {A : Type 0} (p : A → Bool) (xs : List A) → list_any p xs ≡ false → EachOf (λ x. p x ≡ false) xs
each-none p [] h = tt
each-none p (x ∷ xs) h = let parts = or_none (p x) (list_any p xs) h in (parts.0, each-none p xs parts.1)

each-all : {A : Type 0} (P : A → Type 0) (xs : List A) → ((x : A) → P x) → EachOf P xs
each-all P [] f = tt
each-all P (x ∷ xs) f = (f x, each-all P xs f)

-- of one connection
module _ (c : ℕ) where
  -- it doesn't close the connection
  abbrev pub Shut : Outgoing → Type 0
  Shut x = contains x.closes c ≡ false

  abbrev pub Last : Outgoing → Outgoing → Type 0
  Last x y = Shut x

  -- one that closes it is of an item that did
  abbrev pub Over : List (List Effect) → Outgoing → Type 0
  Over items x = contains x.closes c ≡ true → closed_by items c ≡ true

  abbrev pub line : Link → List Outgoing
  line l = map (λ (h : Handed). h.out) l.handed ++ l.queue

  pub record LineOf (items : List (List Effect)) (undue : List Answer) (l : Link) : Type 0 where
    pub last : SortedBy Last (line l)
    pub over : EachOf (Over items) (line l)
    pub clear : EachOf (λ (a : Answer). a.conn ≡ c → EachOf Shut (line l)) undue

  abbrev pub After : Answer → Answer → Type 0
  After a a' = a.conn ≡ c → a'.conn ≡ c → Shut a.out

  abbrev pub OverUndue : List (List Effect) → Answer → Type 0
  OverUndue items a = a.conn ≡ c → Over items a.out

  pub record Sealed (items : List (List Effect)) (b : Box) : Type 0 where
    pub lines : (l : Link) → find_link c b.links ≡ Some l → LineOf items b.undue l
    pub undue : SortedBy After b.undue
    pub undue_over : EachOf (OverUndue items) b.undue

  shut_by : (items : List (List Effect)) (x : Outgoing) → closed_by items c ≡ false → Over items x → Shut x
  shut_by items x unclosed over = by_test (contains x.closes c) refl
    where
      by_test : (v : Bool) → contains x.closes c ≡ v → contains x.closes c ≡ false
      by_test false is = is
      by_test true is = absurd (false≢true (sym unclosed ∙ over is))

  pub shut_line : (items : List (List Effect)) (undue : List Answer) (l : Link) → closed_by items c ≡ false → LineOf items undue l → EachOf Shut (line l)
  shut_line items undue l unclosed h = each-weaken (Over items) Shut (line l) (λ x over. shut_by items x unclosed over) h.over

  -- ---- fewer

  pub fewer_answers : (items : List (List Effect)) (undue undue' : List Answer) (l : Link) → ((P : Answer → Type 0) → EachOf P undue → EachOf P undue') → LineOf items undue l → LineOf items undue' l
  fewer_answers items undue undue' l f h = record { last = h.last; over = h.over; clear = f (λ (a : Answer). a.conn ≡ c → EachOf Shut (line l)) h.clear }

  pub fewer_queued : (items : List (List Effect)) (undue : List Answer) (l : Link) (queue : List Outgoing) → ((P : Outgoing → Type 0) → EachOf P l.queue → EachOf P queue) → (SortedBy Last l.queue → SortedBy Last queue)
      → (l' : Link) → l'.handed ≡ l.handed → l'.queue ≡ queue → LineOf items undue l → LineOf items undue l'
  fewer_queued items undue l queue each sorted l' handed queued h =
      let hs : List Outgoing = map (λ (g : Handed). g.out) l.handed in
      let same : hs ++ queue ≡ line l' = ap (λ q. hs ++ q) (sym queued) ∙ ap (λ gs. map (λ (g : Handed). g.out) gs ++ l'.queue) (sym handed) in
      record {
        last = subst (SortedBy Last) same (sorted-fewer Last hs l.queue queue (λ x. each (Last x)) sorted h.last);
        over = subst (EachOf (Over items)) same (each-fewer (Over items) hs l.queue queue (each (Over items)) h.over);
        clear = each-weaken (λ (a : Answer). a.conn ≡ c → EachOf Shut (line l)) (λ (a : Answer). a.conn ≡ c → EachOf Shut (line l')) undue
            (λ a k at. subst (EachOf Shut) same (each-fewer Shut hs l.queue queue (each Shut) (k at))) h.clear;
      }

  pub more_items : (items : List (List Effect)) (item : List Effect) (b : Box) → Sealed items b → Sealed (items ++ item ∷ []) b
  more_items items item b h = record {
    lines = λ l found. let k = h.lines l found in record { last = k.last; over = each-weaken (Over items) (Over (items ++ item ∷ [])) (line l) over-more k.over; clear = k.clear };
    undue = h.undue;
    undue_over = each-weaken (OverUndue items) (OverUndue (items ++ item ∷ [])) b.undue (λ a k at. over-more a.out (k at)) h.undue_over;
  }
    where
      over-more : (x : Outgoing) → Over items x → Over (items ++ item ∷ []) x
      over-more x k is = closed_by-more items item c ∙ or_first (closed_by items c) (is_closing c item) (k is)

  -- ---- one more

  pub grown : (items : List (List Effect)) (undue : List Answer) (out : Outgoing) (l : Link) → LineOf items undue l → EachOf Shut (line l) → Over items out → EachOf (λ (a : Answer). a.conn ≡ c → Shut out) undue
      → LineOf items undue (append out l)
  grown items undue out l h shut over clear =
      cond_both (takes_more l) (record l { queue = l.queue ++ out ∷ [] }) l (LineOf items undue)
      (λ more. record {
        last = subst (SortedBy Last) whole (sorted-push Last (line l) out h.last shut);
        over = subst (EachOf (Over items)) whole (each-append (Over items) (line l) (out ∷ []) h.over (over, tt));
        clear = each-weaken (λ (a : Answer). a.conn ≡ c → Shut out) (λ (a : Answer). a.conn ≡ c → EachOf Shut (map (λ (g : Handed). g.out) l.handed ++ (l.queue ++ out ∷ []))) undue
            (λ a k at. subst (EachOf Shut) whole (each-append Shut (line l) (out ∷ []) shut (k at, tt))) clear;
      })
      (λ no. h)
    where
      whole : line l ++ out ∷ [] ≡ map (λ (g : Handed). g.out) l.handed ++ (l.queue ++ out ∷ [])
      whole = append_assoc (map (λ (g : Handed). g.out) l.handed) l.queue (out ∷ [])

  append-conn : (out : Outgoing) (l : Link) → (append out l).conn ≡ l.conn
  append-conn out l = cond_both (takes_more l) (record l { queue = l.queue ++ out ∷ [] }) l (λ (m : Link). m.conn ≡ l.conn) (λ is. refl) (λ is. refl)

  -- what is changed at one CID
  pub lines_at : (items : List (List Effect)) (undue undue' : List Answer) (conn : ℕ) (change : Link → Link) (links : List Link) → ((l : Link) → (change l).conn ≡ l.conn)
      → ((l : Link) → find_link c links ≡ Some l → conn ≡ c → LineOf items undue l → LineOf items undue' (change l)) → ((l : Link) → LineOf items undue l → LineOf items undue' l)
      → ((l : Link) → find_link c links ≡ Some l → LineOf items undue l) → (l : Link) → find_link c (at_link conn change links) ≡ Some l → LineOf items undue' l
  lines_at items undue undue' conn change links kept here there h l found =
      let m = find-map (λ (k : Link). cond (k.conn == conn) (change k) k) (λ k. cond_both (k.conn == conn) (change k) k (λ (x : Link). x.conn ≡ k.conn) (λ is. kept k) (λ is. refl)) links c l found in
      subst (LineOf items undue') m.2
      (cond_both (m.0.conn == conn) (change m.0) m.0 (LineOf items undue')
      (λ is. here m.0 m.1 (sym (eqb-true m.0.conn conn is) ∙ found-conn c links m.0 m.1) (h m.0 m.1)) (λ isnt. there m.0 (h m.0 m.1)))

  -- it enters where nothing closes
  pub entered : (items : List (List Effect)) (b : Box) (conn : ℕ) (out : Outgoing) → out.closes ≡ [] → (conn ≡ c → closed_by items c ≡ false) → Sealed items b → Sealed items (enter conn out b)
  entered items b conn out none unclosed h =
      let out' : Outgoing = record out { time = b.time } in
      let shut : contains out.closes c ≡ false = ap (λ ns. contains ns c) none in
      record {
        lines = lines_at items b.undue b.undue conn (append out') b.links (append-conn out')
            (λ l found at k. grown items b.undue out' l k (shut_line items b.undue l (unclosed at) k) (λ is. absurd (false≢true (sym shut ∙ is))) (each-all (λ (a : Answer). a.conn ≡ c → Shut out') b.undue (λ a at'. shut)))
            (λ l k. k) h.lines;
        undue = h.undue;
        undue_over = h.undue_over;
      }

  -- an answer enters that is due
  moved : (items : List (List Effect)) (b : Box) (before rest : List Answer) (a : Answer) → list_any (goes_behind a) before ≡ false
      → Sealed items (record b { undue = before ++ a ∷ rest }) → Sealed items (record (enter a.conn a.out b) { undue = before ++ rest })
  moved items b before rest a first h = record {
    lines = lines_at items (before ++ a ∷ rest) (before ++ rest) a.conn (append out') b.links (append-conn out')
        (λ l found at k. grown items (before ++ rest) out' l (fewer_answers items (before ++ a ∷ rest) (before ++ rest) l less k)
        ((each-second (λ (x : Answer). x.conn ≡ c → EachOf Shut (line l)) before (a ∷ rest) k.clear).0 at)
        ((each-second (OverUndue items) before (a ∷ rest) h.undue_over).0 at)
        (each-append (λ (x : Answer). x.conn ≡ c → Shut out') before rest (each-weaken (λ (x : Answer). goes_behind a x ≡ false) (λ (x : Answer). x.conn ≡ c → Shut out') before (λ x apart there. unbehind x at there apart) (each-none (goes_behind a) before first))
        (each-weaken (After a) (λ (x : Answer). x.conn ≡ c → Shut out') rest (λ x k' there. k' at there) (sorted-second After before (a ∷ rest) h.undue).0)))
        (λ l k. fewer_answers items (before ++ a ∷ rest) (before ++ rest) l less k) h.lines;
    undue = sorted-fewer After before (a ∷ rest) rest (λ x e. e.1) (λ e. e.1) h.undue;
    undue_over = less (OverUndue items) h.undue_over;
  }
    where
      out' : Outgoing
      out' = record (a.out) { time = b.time }

      less : (P : Answer → Type 0) → EachOf P (before ++ a ∷ rest) → EachOf P (before ++ rest)
      less P e = each-fewer P before (a ∷ rest) rest (λ k. k.1) e

      second : (x y : Bool) → x ≡ true → (x && y) ≡ false → y ≡ false
      second true y is h = h
      second false y is h = absurd (false≢true is)

      unbehind : (x : Answer) → a.conn ≡ c → x.conn ≡ c → goes_behind a x ≡ false → contains a.out.closes c ≡ false
      unbehind x at there apart =
          ap (contains a.out.closes) (sym at)
          ∙ second (x.conn == a.conn) (contains a.out.closes a.conn) (eq-eqb x.conn a.conn (there ∙ sym at)) (or_none ((x.conn == a.conn) && contains a.out.closes a.conn) (is_same_aim a.aim x.aim) apart).0

  pub seal_settle : (o : Opening) (items : List (List Effect)) (before rest : List Answer) (b : Box) → Sealed items (record b { undue = before ++ rest }) → Sealed items (settle_from o before rest b)
  seal_settle o items before [] b h = subst (λ u. Sealed items (record b { undue = u })) (append-nil before) h
  seal_settle o items before (a ∷ rest) b h =
      elim (is_due o b before a) as (λ v. is_due o b before a ≡ v → Sealed items (cond v (settle_from o before rest (enter a.conn a.out b)) (settle_from o (before ++ a ∷ []) rest b))) [
        | true ↦ λ due. seal_settle o items before rest (enter a.conn a.out b)
            (moved items b before rest a
            (not_true (list_any (goes_behind a) before) (and_second ((not (list_any (is_running b) a.out.scope) && not (list_any (holds o a) b.links)) && not a.uncleared) (not (list_any (goes_behind a) before)) due)) h)
        | false ↦ λ due. seal_settle o items (before ++ a ∷ []) rest b (subst (λ u. Sealed items (record b { undue = u })) (sym (append_assoc before (a ∷ []) rest)) h)
      ] refl

  -- ---- an item

  pub seal_fewer : (items : List (List Effect)) (b : Box) (undue : List Answer) (change : Link → Link) → ((l : Link) → (change l).conn ≡ l.conn) → ((l : Link) → LineOf items b.undue l → LineOf items undue (change l))
      → ((P : Answer → Type 0) → EachOf P b.undue → EachOf P undue) → (SortedBy After b.undue → SortedBy After undue) → (ts : List _) → Sealed items b → Sealed items (record b { tasks = ts; links = map change b.links; undue = undue })
  seal_fewer items b undue change kept line_kept less sorted ts h = record {
    lines = λ l found. let m = find-map change kept b.links c l found in subst (LineOf items undue) m.2 (line_kept m.0 (h.lines m.0 m.1));
    undue = sorted h.undue;
    undue_over = less (OverUndue items) h.undue_over;
  }

  pub without_line : (items : List (List Effect)) (undue : List Answer) (these : ℕ → Bool) (l : Link) → LineOf items undue l → LineOf items undue (without these l)
  without_line items undue these l h =
      fewer_queued items undue l (without these l).queue (λ P e. each-filter P _ l.queue e) (λ e. sorted-filter Last _ l.queue e) (without these l) refl refl h

  pub seal_leave : (items : List (List Effect)) (r : Option Request) (tickets : List ℕ) (b : Box) → Sealed items b → Sealed items (leave r tickets b)
  seal_leave items (Some r) tickets b h = seal_fewer items b b.undue (without (contains tickets)) (λ l. refl) (λ l k. without_line items b.undue (contains tickets) l k) (λ P e. e) (λ e. e) _ h
  seal_leave items None tickets b h = record { lines = h.lines; undue = h.undue; undue_over = h.undue_over }

  pub seal_entered : (items : List (List Effect)) (r : Option Request) (item : List Effect) (b : Box) → Sealed items b → Sealed items (enter_tasks r item b)
  seal_entered items (Some r) item b h = record { lines = h.lines; undue = h.undue; undue_over = h.undue_over }
  seal_entered items None item b h = h

  -- what is dropped on a connection
  pub seal_drop : (items : List (List Effect)) (conn : ℕ) (b : Box) → Sealed items b → Sealed items (drop_on conn b)
  seal_drop items conn b h =
      let undue' : List Answer = filter (λ (a : Answer). not (a.conn == conn)) b.undue in
      record {
        lines = lines_at items b.undue undue' conn emptied b.links (λ l. refl)
            (λ l found at k. fewer_answers items b.undue undue' (emptied l) (λ P e. each-filter P _ b.undue e) (fewer_queued items b.undue l [] (λ P e. tt) (λ e. tt) (emptied l) refl refl k))
            (λ l k. fewer_answers items b.undue undue' l (λ P e. each-filter P _ b.undue e) k) h.lines;
        undue = sorted-filter After _ b.undue h.undue;
        undue_over = each-filter (OverUndue items) _ b.undue h.undue_over;
      }

  -- only other marks
  pub seal_marks : (items : List (List Effect)) (conn : ℕ) (change : Link → Link) (b : Box) → ((l : Link) → (change l).conn ≡ l.conn) → ((l : Link) → (change l).handed ≡ l.handed) → ((l : Link) → (change l).queue ≡ l.queue)
      → Sealed items b → Sealed items (record b { links = at_link conn change b.links })
  seal_marks items conn change b conns handed queued h = record {
    lines = lines_at items b.undue b.undue conn change b.links conns
        (λ l found at k. fewer_queued items b.undue l l.queue (λ P e. e) (λ e. e) (change l) (handed l) (queued l) k) (λ l k. k) h.lines;
    undue = h.undue;
    undue_over = h.undue_over;
  }

  seal_close_one : (items : List (List Effect)) (by conn : ℕ) (b : Box) → Sealed items b → Sealed items (close_one by conn b)
  seal_close_one items by conn b h =
      cond_both (conn == by) (record b { links = at_link conn (λ l. record l { closed = true }) b.links }) (drop_on conn (record b { links = at_link conn (λ l. record l { closed = true; cut = true }) b.links })) (Sealed items)
      (λ own. seal_marks items conn (λ l. record l { closed = true }) b (λ l. refl) (λ l. refl) (λ l. refl) h)
      (λ own. seal_drop items conn (record b { links = at_link conn (λ l. record l { closed = true; cut = true }) b.links }) (seal_marks items conn (λ l. record l { closed = true; cut = true }) b (λ l. refl) (λ l. refl) (λ l. refl) h))

  seal_close_all : (items : List (List Effect)) (by : ℕ) (conns : List ℕ) (b : Box) → Sealed items b → Sealed items (close_all by conns b)
  seal_close_all items by [] b h = h
  seal_close_all items by (conn ∷ conns) b h = seal_close_all items by conns (close_one by conn b) (seal_close_one items by conn b h)

  pub seal_close : (items : List (List Effect)) (r : Option Request) (conns : List ℕ) (b : Box) → Sealed items b → Sealed items (close r conns b)
  seal_close items (Some r) conns b h = seal_close_all items (connection_of r) conns b h
  seal_close items None conns b h = h

  -- a reply is sent, on a connection that no item before this one closed
  pub seal_send : (o : Opening) (items : List (List Effect)) (item : List Effect) (b : Box) (r : Option Request) (tickets conns closes : List ℕ) (x : Option (ℕ × Reply))
      → ((s : ℕ × Reply) → x ≡ Some s → s.0 ≡ c → closed_by items c ≡ false) → ((q : Request) → r ≡ Some q → contains closes c ≡ true → closed_by (items ++ item ∷ []) c ≡ true)
      → Sealed items b → Sealed (items ++ item ∷ []) (send o r tickets conns closes x b)
  seal_send o items item b r tickets conns closes None hush closing h = more_items items item b h
  seal_send o items item b None tickets conns closes (Some s) hush closing h = counted (enter s.0 (outgoing b None tickets s.1) b) (more_items items item _ (entered items b s.0 (outgoing b None tickets s.1) refl (hush s refl) h))
    where
      counted : (b' : Box) → Sealed (items ++ item ∷ []) b' → Sealed (items ++ item ∷ []) (record b' { sent = b'.sent + 1 })
      counted b' k = record { lines = k.lines; undue = k.undue; undue_over = k.undue_over }
  seal_send o items item b (Some r) tickets conns closes (Some s) hush closing h = by_aim (aim o (Some r) s.1)
    where
      its : List (List Effect)
      its = items ++ item ∷ []

      counted : (b' : Box) → Sealed its b' → Sealed its (record b' { sent = b'.sent + 1 })
      counted b' k = record { lines = k.lines; undue = k.undue; undue_over = k.undue_over }

      more : Sealed its b
      more = more_items items item b h

      awaited : (a : Answer) → a.conn ≡ s.0 → a.out.closes ≡ closes → Sealed its (record b { undue = b.undue ++ a ∷ [] })
      awaited a on same = record {
        lines = λ l found.
            let k = more.lines l found in
            let shut : a.conn ≡ c → EachOf Shut (line l) = λ at. shut_line items b.undue l (hush s refl (sym on ∙ at)) (h.lines l found) in
            record { last = k.last; over = k.over; clear = each-append (λ (x : Answer). x.conn ≡ c → EachOf Shut (line l)) b.undue (a ∷ []) k.clear (shut, tt) };
        undue = sorted-push After b.undue a h.undue (each-weaken (OverUndue items) (λ (x : Answer). After x a) b.undue (λ x k there at. shut_by items x.out (hush s refl (sym on ∙ at)) (k there)) h.undue_over);
        undue_over = each-append (OverUndue its) b.undue (a ∷ []) more.undue_over ((λ at is. closing r refl (ap (λ ns. contains ns c) (sym same) ∙ is)), tt);
      }

      by_aim : (x : Option Aim) → Sealed its (let b' = send_as o (Some r) x conns closes s.0 (outgoing b (Some r) tickets s.1) b in record b' { sent = b'.sent + 1 })
      by_aim None = counted (enter s.0 (outgoing b (Some r) tickets s.1) b) (more_items items item _ (entered items b s.0 (outgoing b (Some r) tickets s.1) refl (hush s refl) h))
      by_aim (Some about) =
          let a : Answer = answer o b r conns closes s.0 (outgoing b (Some r) tickets s.1) about in
          cond_both (list_any (λ (l : Link). (l.conn == a.conn) && takes_more l) b.links) (record b { undue = b.undue ++ a ∷ [] }) b (λ (b' : Box). Sealed its (record b' { sent = b'.sent + 1 }))
          (λ may. counted (record b { undue = b.undue ++ a ∷ [] }) (awaited a refl refl)) (λ may. counted b more)
