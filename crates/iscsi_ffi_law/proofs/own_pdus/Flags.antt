-- Own PDUs that are of no command: those that the rules need no more are those whose places the steps use no more.
use Rattle.std.proofs.Common.{◌≡◌, ℕ, ◌+◌, ◌<◌, ◌≤◌, ◌==◌, ◌&&◌, inl, inr, ⊎_elim, not, cond, nat_lt, Bool, true, false, List, [], ◌∷◌, ◌++◌, length, map, count_by, filter, replicate, Option, Some, None, refl, ap, sym, subst, ◌∙◌, arith, lt-ltb, le-ltb}
use Rattle.std.proofs.lemmas.Bool.{false≢true, eqb-true, eq-eqb, cases_lt}
use Rattle.iscsi_rules.proofs.general.CountLemmas.{one, count-cons, count-weaker}
use Rattle.iscsi_rules.proofs.general.BoolLemmas.{and_second}
use Rattle.iscsi_rules.proofs.general.ElementLemmas.{In, append-in_first, append-in_second, in-append}
use Rattle.iscsi_outbox_rules.specs.rules.Boxes.{Handed, Link}
use Rattle.iscsi_outbox_law.specs.private.Commands.{link_in}
use Rattle.iscsi_outbox_law.specs.private.Pairs.{EachOf, PairsOf}
use Rattle.iscsi_outbox_law.proofs.general.PlaceLemmas.{AreApart as LinksApart, conns_of, one_place}
use Rattle.iscsi_rules.specs.rules.Trace.{entered}
use Rattle.iscsi_requests.specs.Conns.{of_conn}
use Rattle.iscsi_requests.specs.declared.replies.WaitingReply.{WaitingReply}
use Rattle.iscsi_ffi_commands.specs.declared.command.Command.{Command}
use Rattle.iscsi_ffi_rules.specs.rules.Needs.{is_noted, left_to_write, noted_unwritten, noted_waiting}
use Rattle.iscsi_ffi_rules.specs.rules.Sides.{Side}
use Rattle.iscsi_ffi_steps.specs.State.{State}
use Rattle.iscsi_ffi_law.specs.Names.{Name, Note, handed_notes, note_places, waiting_notes}
use Rattle.iscsi_ffi_law.specs.Parts.{AreCommands, IsAbout, IsAnswered, IsCommand, IsConn, IsNote, is_named, noted_in}
use Rattle.iscsi_ffi_law.specs.Uses.{count_commands, count_noted, count_replies, count_unwritten, is_place, is_used, uses_of}
use Rattle.iscsi_ffi_law.proofs.general.Lists.{lists_at}
use Rattle.iscsi_ffi_law.proofs.general.Members.{CountedAt, Paired, Passing, counted_in, each_in, in_counted, lists_counted, pairs_in, two_counted}
use Rattle.iscsi_ffi_law.proofs.requests.NameLemmas.{Named, found_named}
use Rattle.iscsi_ffi_law.proofs.requests.Needs.{placed_some}
use Rattle.iscsi_ffi_law.proofs.own_pdus.NotePlaces.{note_there, notes_counted}
use Rattle.iscsi_ffi_law.proofs.own_pdus.Notes.{HasFlags}
use Rattle.iscsi_ffi_law.proofs.requests.Replies.{AnswersIt, HaveConns, answers_it}

abbrev pub is_used_place : State → ℕ → Bool
is_used_place s place = nat_lt 0 (uses_of place s)

abbrev pub is_used_note : State → Note → Bool
is_used_note s n = is_used_place s n.place

none_or : (x : ℕ) → (1 ≤ x → ⊥) → x ≡ 0
none_or x never = ⊎_elim (λ some. absurd (never (omega (arith, some)))) (λ none. omega (arith, none)) (cases_lt 0 x)

-- an own PDU among those that were handed out
noted_there : (P : Option ℕ → Handed → Type 0) (xs : List (Option ℕ)) (hs : List Handed) (x : Option ℕ) → In x xs → PairsOf P xs hs → ((h : Handed) → P x h → is_noted h.out.pdu ≡ true) → In x (noted_in xs hs)
noted_there P [] hs x there pairs noted = absurd there
noted_there P (y ∷ xs) [] x there pairs noted = absurd pairs
noted_there P (y ∷ xs) (h ∷ hs) x there pairs noted =
    ⊎_elim
    (λ same. subst (λ v. In x (cond v (y ∷ noted_in xs hs) (noted_in xs hs))) (sym (noted h (subst (λ z. P z h) same pairs.0))) (inl same))
    (λ later. either (is_noted h.out.pdu) (noted_there P xs hs x later pairs.1 noted)) there
  where
    either : (v : Bool) → In x (noted_in xs hs) → In x (cond v (y ∷ noted_in xs hs) (noted_in xs hs))
    either true k = inr k
    either false k = k

noted_from : (xs : List (Option ℕ)) (hs : List Handed) (x : Option ℕ) → In x (noted_in xs hs) → In x xs
noted_from [] [] x there = absurd there
noted_from [] (h ∷ hs) x there = absurd there
noted_from (y ∷ xs) [] x there = absurd there
noted_from (y ∷ xs) (h ∷ hs) x there = either (is_noted h.out.pdu) there (noted_from xs hs x)
  where
    either : (v : Bool) → In x (cond v (y ∷ noted_in xs hs) (noted_in xs hs)) → (In x (noted_in xs hs) → In x xs) → In x (y ∷ xs)
    either true k later = ⊎_elim (λ same. inl same) (λ rest. inr (later rest)) k
    either false k later = inr (later k)

pub noted_long : (P : Option ℕ → Handed → Type 0) (xs : List (Option ℕ)) (hs : List Handed) → PairsOf P xs hs → length (noted_in xs hs) ≡ count_by (λ (h : Handed). is_noted h.out.pdu) hs
noted_long P [] [] pairs = refl
noted_long P [] (h ∷ hs) pairs = absurd pairs
noted_long P (x ∷ xs) [] pairs = absurd pairs
noted_long P (x ∷ xs) (h ∷ hs) pairs = either (noted_long P xs hs pairs.1) (is_noted h.out.pdu) refl
  where
    either : length (noted_in xs hs) ≡ count_by (λ (k : Handed). is_noted k.out.pdu) hs → (v : Bool) → is_noted h.out.pdu ≡ v → length (cond v (x ∷ noted_in xs hs) (noted_in xs hs)) ≡ count_by (λ (k : Handed). is_noted k.out.pdu) (h ∷ hs)
    either rest true is = let here : one (is_noted h.out.pdu) ≡ 1 = ap one is in omega (arith, rest, here, count-cons (λ (k : Handed). is_noted k.out.pdu) h hs)
    either rest false is = let here : one (is_noted h.out.pdu) ≡ 0 = ap one is in omega (arith, rest, here, count-cons (λ (k : Handed). is_noted k.out.pdu) h hs)

module _ (names : List Name) (notes : List Note) (gone : ℕ → List (Option ℕ)) (s : State) (r : Side) (h : HaveConns names notes gone s r)
    (apart_links : LinksApart (conns_of r.both.box.links)) (each : EachOf (IsNote s r.both.box.links) notes) (commands : AreCommands names r s.commands.items) where
  open_note : (m n : Note) → In m notes → In n notes → m.place ≡ n.place → m ≡ n
  open_note m n k there same =
      let few : count_by (λ (x : Note). x.place == n.place) notes ≤ 1 = omega (arith, h.apart.places n.place) in
      two_counted (λ (x : Note). x.place == n.place) notes m n few k there (eq-eqb m.place n.place same) (eq-eqb n.place n.place refl)

  -- no request has the place of an own PDU
  no_name : (n : Note) → In n notes → (event : ℕ) → Named names event n.place → ⊥
  no_name n there event f =
      let one : 1 ≤ count_by (λ (x : Name). x.place == n.place) names = in_counted (λ (x : Name). x.place == n.place) names f.name f.there (eq-eqb f.name.place n.place f.place_is) in
      let two : 1 ≤ count_by (λ (x : Note). x.place == n.place) notes = in_counted (λ (x : Note). x.place == n.place) notes n there (eq-eqb n.place n.place refl) in
      omega (arith, one, two, h.apart.places n.place)

  pub no_command : (n : Note) → In n notes → count_commands n.place s ≡ 0
  no_command n there = none_or (count_commands n.place s) (λ some.
      let c : Passing (λ (x : Command). x.request == n.place && is_used s.outbox x) s.commands.items = counted_in (λ (x : Command). x.request == n.place && is_used s.outbox x) s.commands.items some in
      let is : c.x.request ≡ n.place = by_first (c.x.request == n.place) (is_used s.outbox c.x) refl c.passes in
      let d : Paired (IsCommand names r) c.x (filter (is_named names) (entered r.both.trace)) = pairs_in (IsCommand names r) s.commands.items (filter (is_named names) (entered r.both.trace)) c.x c.there commands in
      no_name n there d.y.arrival.event (found_named names d.y.arrival.event n.place (d.pair.request ∙ ap (λ (v : ℕ). Some v) is)))
    where
      by_first : {a b : ℕ} → (v w : Bool) → (a == b) ≡ v → (v && w) ≡ true → a ≡ b
      by_first {a = a} {b = b} true w is k = eqb-true a b is
      by_first {a = a} {b = b} false w is k = absurd (false≢true k)

  pub no_reply : (n : Note) → In n notes → count_replies n.place s ≡ 0
  no_reply n there = none_or (count_replies n.place s) (λ some.
      let at : CountedAt (λ (x : WaitingReply). x.request == n.place) s.replies.waiting = lists_counted (λ (x : WaitingReply). x.request == n.place) s.replies.waiting some in
      let within : at.place < length r.both.box.links = omega (arith, at.within, h.replies) in
      let c : IsConn names notes (gone at.place) s r at.place (link_in r.both.box.links at.place) = h.conns at.place within in
      let x : Passing (λ (y : WaitingReply). y.request == n.place) (of_conn at.place s.replies.waiting) = counted_in (λ (y : WaitingReply). y.request == n.place) (of_conn at.place s.replies.waiting) at.some in
      let a : AnswersIt names r.answers x.x.log_place x.x.request = answers_it names r.answers x.x.log_place x.x.request (each_in (λ (y : WaitingReply). IsAnswered names r.answers y.log_place y.request) (of_conn at.place s.replies.waiting) x.x x.there c.replies) in
      no_name n there a.event (found_named names a.event n.place (a.named ∙ ap (λ (v : ℕ). Some v) (eqb-true x.x.request n.place x.passes))))

  -- ---- where the place of an own PDU stands

  abbrev pub places_on : ℕ → List (Option ℕ)
  places_on p = noted_in (of_conn p s.unwritten.handed) (left_to_write (link_in r.both.box.links p)) ++ of_conn p s.noted.handed

  -- an own PDU of a connection
  of_note : (p : ℕ) → p < length r.both.box.links → (x : Option ℕ) → In x (gone p ++ places_on p) → (n : Note) × In n notes × (n.conn ≡ (link_in r.both.box.links p).conn) × (Some n.place ≡ x)
  of_note p within = note_there notes (link_in r.both.box.links p).conn (gone p) (of_conn p s.noted.handed) (noted_in (of_conn p s.unwritten.handed) (left_to_write (link_in r.both.box.links p))) (h.conns p within).noted

  -- one that waits, or isn't written
  pub standing : (n : Note) → In n notes → 1 ≤ count_unwritten n.place s + count_noted n.place s → (p : ℕ) × (p < length r.both.box.links) × ((link_in r.both.box.links p).conn ≡ n.conn) × In (Some n.place) (places_on p)
  standing n there some =
      ⊎_elim
      (λ written.
      let at : CountedAt (is_place n.place) s.unwritten.handed = lists_counted (is_place n.place) s.unwritten.handed (omega (arith, written)) in
      let within : at.place < length r.both.box.links = omega (arith, at.within, h.unwritten) in
      let c : IsConn names notes (gone at.place) s r at.place (link_in r.both.box.links at.place) = h.conns at.place within in
      let x : Passing (is_place n.place) (of_conn at.place s.unwritten.handed) = counted_in (is_place n.place) (of_conn at.place s.unwritten.handed) at.some in
      let y : Paired (IsAbout names notes r (link_in r.both.box.links at.place).conn) x.x (left_to_write (link_in r.both.box.links at.place))
      = pairs_in (IsAbout names notes r (link_in r.both.box.links at.place).conn) (of_conn at.place s.unwritten.handed) (left_to_write (link_in r.both.box.links at.place)) x.x x.there c.written in
      let is = each_in (λ (m : Note). is_place m.place x.x ≡ true → (is_noted y.y.out.pdu ≡ true) × (m.conn ≡ (link_in r.both.box.links at.place).conn)) notes n there y.pair.noted x.passes in
      let there_too : In x.x (noted_in (of_conn at.place s.unwritten.handed) (left_to_write (link_in r.both.box.links at.place)))
      = noted_there (IsAbout names notes r (link_in r.both.box.links at.place).conn) (of_conn at.place s.unwritten.handed) (left_to_write (link_in r.both.box.links at.place)) x.x x.there c.written
      (λ g k. (each_in (λ (m : Note). is_place m.place x.x ≡ true → (is_noted g.out.pdu ≡ true) × (m.conn ≡ (link_in r.both.box.links at.place).conn)) notes n there k.noted x.passes).0) in
      (at.place, within, sym is.1, subst (λ z. In z (places_on at.place)) (placed_some n.place x.x x.passes) (append-in_first (noted_in (of_conn at.place s.unwritten.handed) (left_to_write (link_in r.both.box.links at.place))) (of_conn at.place s.noted.handed) x.x there_too)))
      (λ none.
      let at : CountedAt (is_place n.place) s.noted.handed = lists_counted (is_place n.place) s.noted.handed (omega (arith, some, none)) in
      let within : at.place < length r.both.box.links = omega (arith, at.within, h.noted) in
      let c : IsConn names notes (gone at.place) s r at.place (link_in r.both.box.links at.place) = h.conns at.place within in
      let x : Passing (is_place n.place) (of_conn at.place s.noted.handed) = counted_in (is_place n.place) (of_conn at.place s.noted.handed) at.some in
      let in_all : In x.x (places_on at.place) = append-in_second (noted_in (of_conn at.place s.unwritten.handed) (left_to_write (link_in r.both.box.links at.place))) (of_conn at.place s.noted.handed) x.x x.there in
      let m = of_note at.place within x.x (append-in_second (gone at.place) (places_on at.place) x.x in_all) in
      let is : m.0.place ≡ n.place = (let same : Some m.0.place ≡ Some n.place = m.3 ∙ placed_some n.place x.x x.passes in cc) in
      let same : m.0 ≡ n = open_note m.0 n m.1 there is in
      (at.place, within, sym m.2 ∙ ap (λ (y : Note). y.conn) same, subst (λ z. In z (places_on at.place)) (placed_some n.place x.x x.passes) in_all))
      (cases_lt 0 (count_unwritten n.place s))

  -- ---- those that are needed no more

  -- one that isn't needed stands nowhere
  pub gone_unused : (p : ℕ) → p < length r.both.box.links → (n : Note) → In n notes → In (Some n.place) (gone p) → uses_of n.place s ≡ 0
  gone_unused p within n there k =
      let c : IsConn names notes (gone p) s r p (link_in r.both.box.links p) = h.conns p within in
      let no_others : count_unwritten n.place s + count_noted n.place s ≡ 0 = none_or (count_unwritten n.place s + count_noted n.place s) (λ some.
      let at = standing n there some in
      let m = of_note p within (Some n.place) (append-in_first (gone p) (places_on p) (Some n.place) k) in
      let is : m.0.place ≡ n.place = (let same : Some m.0.place ≡ Some n.place = m.3 in cc) in
      let same : m.0 ≡ n = open_note m.0 n m.1 there is in
      let conn : n.conn ≡ (link_in r.both.box.links p).conn = ap (λ (y : Note). y.conn) (sym same) ∙ m.2 in
      let here : at.0 ≡ p = one_place r.both.box.links at.0 p apart_links at.1 within (at.2 ∙ conn) in
      let one_gone : 1 ≤ count_by (is_place n.place) (gone p) = in_counted (is_place n.place) (gone p) (Some n.place) k (eq-eqb n.place n.place refl) in
      let one_stands : 1 ≤ count_by (is_place n.place) (places_on p) = in_counted (is_place n.place) (places_on p) (Some n.place) (subst (λ q. In (Some n.place) (places_on q)) here at.3) (eq-eqb n.place n.place refl) in
      let all : count_by (is_place n.place) (gone p) + count_by (is_place n.place) (places_on p) ≡ count_by (λ (y : Note). (y.conn == (link_in r.both.box.links p).conn) && (y.place == n.place)) notes
      = notes_counted notes (link_in r.both.box.links p).conn (gone p) (of_conn p s.noted.handed) (noted_in (of_conn p s.unwritten.handed) (left_to_write (link_in r.both.box.links p))) c.noted (is_place n.place) in
      let fewer : count_by (λ (y : Note). (y.conn == (link_in r.both.box.links p).conn) && (y.place == n.place)) notes ≤ count_by (λ (y : Note). y.place == n.place) notes
      = count-weaker (λ (y : Note). (y.conn == (link_in r.both.box.links p).conn) && (y.place == n.place)) (λ (y : Note). y.place == n.place) notes (λ y both. and_second (y.conn == (link_in r.both.box.links p).conn) (y.place == n.place) both) in
      omega (arith, one_gone, one_stands, all, fewer, h.apart.places n.place)) in
      let q : IsNote s r.both.box.links n = each_in (IsNote s r.both.box.links) notes n there each in
      omega (arith, no_others, q.held, q.waiting, no_command n there, no_reply n there)

  -- ---- as the rules count them

  abbrev pub flag_of : Option ℕ → Bool
  flag_of x = elim x [ Some place ↦ is_used_place s place | None ↦ false ]

  map_flags : (v : Bool) (xs : List (Option ℕ)) → ((x : Option ℕ) → In x xs → flag_of x ≡ v) → map flag_of xs ≡ replicate (length xs) v
  map_flags v [] same = refl
  map_flags v (x ∷ xs) same = ap (λ b. b ∷ map flag_of xs) (same x (inl refl)) ∙ ap (λ bs. v ∷ bs) (map_flags v xs (λ y k. same y (inr k)))

  map_places : (ns : List Note) → map (is_used_note s) ns ≡ map flag_of (map (λ (n : Note). Some n.place) ns)
  map_places [] = refl
  map_places (n ∷ ns) = ap (λ bs. is_used_note s n ∷ bs) (map_places ns)

  map_parts : (xs ys : List (Option ℕ)) → map flag_of (xs ++ ys) ≡ map flag_of xs ++ map flag_of ys
  map_parts [] ys = refl
  map_parts (x ∷ xs) ys = ap (λ bs. flag_of x ∷ bs) (map_parts xs ys)

  pub unused_flag : (p : ℕ) → p < length r.both.box.links → (x : Option ℕ) → In x (gone p) → flag_of x ≡ false
  unused_flag p within x k =
      let n = of_note p within x (append-in_first (gone p) (places_on p) x k) in
      ap flag_of (sym n.3) ∙ le-ltb 0 (uses_of n.0.place s) (omega (arith, gone_unused p within n.0 n.1 (subst (λ z. In z (gone p)) (sym n.3) k)))

  pub used_flag : (p : ℕ) → p < length r.both.box.links → (x : Option ℕ) → In x (places_on p) → flag_of x ≡ true
  used_flag p within x k =
      let n = of_note p within x (append-in_second (gone p) (places_on p) x k) in
      let stands : In (Some n.0.place) (places_on p) = subst (λ z. In z (places_on p)) (sym n.3) k in
      ap flag_of (sym n.3) ∙ lt-ltb 0 (uses_of n.0.place s)
      (⊎_elim
      (λ written.
      let one : 1 ≤ count_by (is_place n.0.place) (of_conn p s.unwritten.handed)
      = in_counted (is_place n.0.place) (of_conn p s.unwritten.handed) (Some n.0.place) (noted_from (of_conn p s.unwritten.handed) (left_to_write (link_in r.both.box.links p)) (Some n.0.place) written) (eq-eqb n.0.place n.0.place refl) in
      omega (arith, one, lists_at (is_place n.0.place) s.unwritten.handed p))
      (λ waiting.
      let one : 1 ≤ count_by (is_place n.0.place) (of_conn p s.noted.handed) = in_counted (is_place n.0.place) (of_conn p s.noted.handed) (Some n.0.place) waiting (eq-eqb n.0.place n.0.place refl) in
      omega (arith, one, lists_at (is_place n.0.place) s.noted.handed p))
      (in-append (noted_in (of_conn p s.unwritten.handed) (left_to_write (link_in r.both.box.links p))) (of_conn p s.noted.handed) (Some n.0.place) stands))

  -- the first ones of a kind aren't used
  flags_kept : (p : ℕ) (left : Link → ℕ) (kind : Note → Bool) (over xs : List (Option ℕ)) → note_places (link_in r.both.box.links p).conn (filter kind notes) ≡ over ++ xs → ((x : Option ℕ) → In x over → flag_of x ≡ false)
      → ((x : Option ℕ) → In x xs → flag_of x ≡ true) → length xs ≡ left (link_in r.both.box.links p) → HasFlags left (is_used_note s) (filter kind notes) (link_in r.both.box.links p)
  flags_kept p left kind over xs are unused used long = record {
    unused = length over;
    flags =
        map_places (filter (λ (n : Note). n.conn == (link_in r.both.box.links p).conn) (filter kind notes)) ∙ ap (map flag_of) are ∙ map_parts over xs ∙ ap (λ bs. bs ++ map flag_of xs) (map_flags false over unused)
        ∙ ap (λ bs. replicate (length over) false ++ bs) (map_flags true xs used ∙ ap (λ k. replicate k true) long);
  }

  pub waiting_flags : (p : ℕ) → p < length r.both.box.links → HasFlags noted_waiting (is_used_note s) (waiting_notes notes) (link_in r.both.box.links p)
  waiting_flags p within =
      let c : IsConn names notes (gone p) s r p (link_in r.both.box.links p) = h.conns p within in
      flags_kept p noted_waiting (λ (n : Note). n.waits) c.noted.gone_waiting (of_conn p s.noted.handed) c.noted.waiting_are
      (λ x k. unused_flag p within x (subst (In x) (sym c.noted.gone_are) (append-in_second c.noted.gone_handed c.noted.gone_waiting x k)))
      (λ x k. used_flag p within x (append-in_second (noted_in (of_conn p s.unwritten.handed) (left_to_write (link_in r.both.box.links p))) (of_conn p s.noted.handed) x k)) c.queued.noting

  pub handed_flags : (p : ℕ) → p < length r.both.box.links → HasFlags noted_unwritten (is_used_note s) (handed_notes notes) (link_in r.both.box.links p)
  handed_flags p within =
      let c : IsConn names notes (gone p) s r p (link_in r.both.box.links p) = h.conns p within in
      flags_kept p noted_unwritten (λ (n : Note). not n.waits) c.noted.gone_handed (noted_in (of_conn p s.unwritten.handed) (left_to_write (link_in r.both.box.links p))) c.noted.handed_are
      (λ x k. unused_flag p within x (subst (In x) (sym c.noted.gone_are) (append-in_first c.noted.gone_handed c.noted.gone_waiting x k)))
      (λ x k. used_flag p within x (append-in_first (noted_in (of_conn p s.unwritten.handed) (left_to_write (link_in r.both.box.links p))) (of_conn p s.noted.handed) x k))
      (noted_long (IsAbout names notes r (link_in r.both.box.links p).conn) (of_conn p s.unwritten.handed) (left_to_write (link_in r.both.box.links p)) c.written)
