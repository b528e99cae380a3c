-- What is handed out: an own PDU that is of no command.
use Rattle.std.proofs.Common.{◌≡◌, ℕ, suc, ◌+◌, ◌<◌, ◌≤◌, ◌==◌, ◌&&◌, cond, Bool, true, false, List, [], ◌∷◌, ◌++◌, length, map, count_by, filter, Option, Some, None, refl, ap, sym, subst, ◌∙◌, arith, length-set, ne_eqb}
use Rattle.std.proofs.lemmas.Bool.{eqb-true, eq-eqb, and_from}
use Rattle.std.proofs.lemmas.List.{get_or-set_same, get_or-set_other}
use Rattle.iscsi_rules.proofs.general.BoolLemmas.{and_parts}
use Rattle.iscsi_rules.proofs.general.CountLemmas.{one, count-cons}
use Rattle.iscsi_rules.proofs.general.ElementLemmas.{In}
use Rattle.iscsi_outbox_rules.specs.rules.Boxes.{Handed, Outgoing}
use Rattle.iscsi_outbox_rules.specs.rules.Handing.{is_from_queue}
use Rattle.iscsi_outbox_rules.specs.rules.Words.{is_open}
use Rattle.iscsi_outbox_law.specs.private.Commands.{link_in}
use Rattle.iscsi_outbox_law.proofs.general.PlaceLemmas.{AreApart as LinksApart, conns_of, one_place}
use Rattle.iscsi_requests.specs.Conns.{behind_oldest, of_conn}
use Rattle.iscsi_requests.specs.Cookies as cookies
use Rattle.iscsi_requests.specs.Cookies.{cookie_at, uses_at}
use Rattle.iscsi_requests.specs.Unwritten.{popped}
use Rattle.iscsi_ffi_rules.specs.rules.Calls.{Interface}
use Rattle.iscsi_ffi_rules.specs.rules.Needs.{first_noted as rules_first, is_about, is_noted, left_to_write, without_first}
use Rattle.iscsi_ffi_rules.specs.rules.Run as rules
use Rattle.iscsi_ffi_rules.specs.rules.Sides.{Noted, Side}
use Rattle.iscsi_ffi_steps.specs.Steps.{Side as StepsSide}
use Rattle.iscsi_ffi_law.specs.Names.{Name, Note, waiting_notes}
use Rattle.iscsi_ffi_law.specs.Parts.{IsAbout, is_sent_at, noted_in, IsQueued}
use Rattle.iscsi_ffi_law.specs.Stands.{Stands}
use Rattle.iscsi_ffi_law.specs.Uses.{is_place}
use Rattle.iscsi_ffi_law.proofs.requests.Cookies.{cookie_there}
use Rattle.iscsi_ffi_law.proofs.calls.Finish.{as_many_links}
use Rattle.iscsi_ffi_law.proofs.sending.Handing.{IsHandedOn, noted_more}
use Rattle.iscsi_ffi_law.proofs.general.Lists.{lists_set}
use Rattle.iscsi_ffi_law.proofs.general.Members.{Passing, counted_in, in_counted, in_each, two_counted}
use Rattle.iscsi_ffi_law.proofs.own_pdus.NoteMoves.{IsFirst, first_split, first_there, found_first, handed_elsewhere, handed_here, moved, moved_renoted, noted_moved, waiting_elsewhere, waiting_here}
use Rattle.iscsi_ffi_law.proofs.own_pdus.NotePlaces.{handed_whole, notes_whole, waiting_whole}
use Rattle.iscsi_ffi_law.proofs.sending.Sources.{about_none, answered_on, tail_queued}

module _ (i : Interface) (s : StepsSide) (r : Side) (h : Stands i s r) (p : ℕ) (within : p < length r.both.box.links) (opens : is_open (link_in r.both.box.links p) ≡ true) (g : Handed) (apart : LinksApart (conns_of r.both.box.links))
    (sent : g.out.sent ≡ None) (ticket : g.out.ticket ≡ None) (own : is_noted g.out.pdu ≡ true) (from : is_from_queue g.out ≡ true) (rest : List Outgoing) (queue : (link_in r.both.box.links p).queue ≡ g.out ∷ rest) where
  abbrev written_places : List (Option ℕ)
  written_places = noted_in (of_conn p s.state.unwritten.handed) (left_to_write (link_in r.both.box.links p))

  counted_first : count_by (λ (o : Outgoing). is_noted o.pdu) (link_in r.both.box.links p).queue ≡ 1 + count_by (λ (o : Outgoing). is_noted o.pdu) rest
  counted_first = ap (count_by (λ (o : Outgoing). is_noted o.pdu)) queue ∙ count-cons (λ (o : Outgoing). is_noted o.pdu) g.out rest ∙ ap (λ v. one v + count_by (λ (o : Outgoing). is_noted o.pdu) rest) own

  -- the first one that waits
  pub record FirstNoted : Type 0 where
    pub place : ℕ
    pub later : List (Option ℕ)
    pub waiting : of_conn p s.state.noted.handed ≡ Some place ∷ later
    pub note : Note
    pub others : List Note
    pub place_is : note.place ≡ place
    pub later_is : map (λ (n : Note). Some n.place) others ≡ later
    pub split : IsFirst (link_in r.both.box.links p).conn note others h.notes

  pub first_noted : FirstNoted
  first_noted = by_list (of_conn p s.state.noted.handed) refl
    where
      by_list : (ys : List (Option ℕ)) → of_conn p s.state.noted.handed ≡ ys → FirstNoted
      by_list [] is = absurd (let none : length (of_conn p s.state.noted.handed) ≡ 0 = ap length is in let no' : ⊥ = omega (arith, none, (h.requests.conns p within).queued.noting, counted_first) in no')
      by_list (y ∷ ys) is =
          by_notes (filter (λ (n : Note). n.conn == (link_in r.both.box.links p).conn) (waiting_notes h.notes)) refl
          (waiting_whole h.notes (link_in r.both.box.links p).conn (of_conn p s.state.noted.handed) written_places (h.requests.conns p within).noted ∙ is)
        where
          by_notes : (ns : List Note) → filter (λ (n : Note). n.conn == (link_in r.both.box.links p).conn) (waiting_notes h.notes) ≡ ns → map (λ (n : Note). Some n.place) ns ≡ y ∷ ys → FirstNoted
          by_notes [] are whole = absurd cc
          by_notes (n ∷ ns) are whole =
              let same : Some n.place ≡ y = cc in
              let behind : map (λ (m : Note). Some m.place) ns ≡ ys = cc in
              record { place = n.place; later = ys; waiting = is ∙ ap (λ z. z ∷ ys) (sym same); note = n; others = ns; place_is = refl; later_is = behind; split = first_split (link_in r.both.box.links p).conn n ns h.notes are }

  module _ (f : FirstNoted) where
    there : In f.note h.notes
    there = first_there (link_in r.both.box.links p).conn f.note f.others h.notes f.split

    abbrev pub notes_now : List Note
    notes_now = moved (link_in r.both.box.links p).conn f.note f.others h.notes f.split

    many : length s.state.noted.handed ≡ length r.both.box.links
    many = h.sizes.noted ∙ sym (as_many_links i s.state r h.outbox)

    here_left : of_conn p (popped p s.state.noted).handed ≡ f.later
    here_left = get_or-set_same s.state.noted.handed p (behind_oldest (of_conn p s.state.noted.handed)) [] (omega (arith, within, many)) ∙ ap behind_oldest f.waiting

    others_left : (q : ℕ) → (q ≡ p → ⊥) → of_conn q (popped p s.state.noted).handed ≡ of_conn q s.state.noted.handed
    others_left q other = get_or-set_other s.state.noted.handed p q (behind_oldest (of_conn p s.state.noted.handed)) [] other

    note_alone : (n : Note) → In n h.notes → (f.place == n.place) ≡ true → n ≡ f.note
    note_alone n at same =
        let few : count_by (λ (m : Note). m.place == f.place) h.notes ≤ 1 = omega (arith, h.requests.apart.places f.place) in
        two_counted (λ (m : Note). m.place == f.place) h.notes n f.note few at there (eq-eqb n.place f.place (sym (eqb-true f.place n.place same))) (eq-eqb f.note.place f.place f.place_is)

    no_name : (n : Name) → In n h.names → (f.place == n.place) ≡ false
    no_name n at = by_test (f.place == n.place) refl
      where
        by_test : (v : Bool) → (f.place == n.place) ≡ v → v ≡ false
        by_test false is = refl
        by_test true is =
            let one_name : 1 ≤ count_by (λ (m : Name). m.place == n.place) h.names = in_counted (λ (m : Name). m.place == n.place) h.names n at (eq-eqb n.place n.place refl) in
            let one_note : 1 ≤ count_by (λ (m : Note). m.place == n.place) h.notes = in_counted (λ (m : Note). m.place == n.place) h.notes f.note there (ap (λ q. q == n.place) f.place_is ∙ is) in
            absurd (let no' : ⊥ = omega (arith, one_name, one_note, h.requests.apart.places n.place) in no')

    none_sent : (place : ℕ) → one (is_sent_at place g.out) ≡ 0
    none_sent place = ap (λ (x : Option ℕ). one (elim x [ Some q ↦ q == place | None ↦ false ])) sent

    pub noted_handed : IsHandedOn i s r h p within opens g (Some f.place) s.state.cookies s.state.replies (popped p s.state.noted)
        notes_now (without_first (link_in r.both.box.links p).conn 1 r.noted) (r.handed_notes ++ rules_first (link_in r.both.box.links p).conn 1 r.noted)
    noted_handed = record {
      about = record {
        named = in_each (λ (n : Name). is_about n.event r g.out ≡ (f.place == n.place)) h.names (λ n at. about_none i s r h p within opens g sent ticket n.event ∙ sym (no_name n at));
        noted = in_each (λ (n : Note). (f.place == n.place) ≡ true → (is_noted g.out.pdu ≡ true) × (n.conn ≡ (link_in r.both.box.links p).conn)) h.notes (λ n at same. (own, ap (λ (m : Note). m.conn) (note_alone n at same) ∙ eqb-true f.note.conn (link_in r.both.box.links p).conn f.split.here));
      };
      kept = h.requests.kept;
      counted = h.requests.counted;
      uses = λ place.
          let set_there = lists_set (is_place place) s.state.noted.handed p (behind_oldest (of_conn p s.state.noted.handed)) (omega (arith, within, many)) in
          let all : count_by (is_place place) (of_conn p s.state.noted.handed) ≡ one (f.place == place) + count_by (is_place place) f.later = ap (count_by (is_place place)) f.waiting ∙ count-cons (is_place place) (Some f.place) f.later in
          let left : count_by (is_place place) (behind_oldest (of_conn p s.state.noted.handed)) ≡ count_by (is_place place) f.later = ap (λ ys. count_by (is_place place) (behind_oldest ys)) f.waiting in
          omega (arith, set_there, all, left, h.requests.uses place);
      once = h.requests.once;
      replies_long = refl;
      replies_room = refl;
      replies_last = refl;
      noted_long = length-set s.state.noted.handed p (behind_oldest (of_conn p s.state.noted.handed));
      noted_room = refl;
      answered = λ q. answered_on i s r h q;
      queued_here = tail_queued h.names r.both.trace r.answers r.both.box.undue (of_conn p s.state.replies.waiting) (of_conn p s.state.replies.waiting) (length (of_conn p s.state.noted.handed)) (length (of_conn p (popped p s.state.noted).handed)) (link_in r.both.box.links p) g.out rest queue (h.requests.conns p within).queued
          (λ place. let all : count_by (is_sent_at place) (link_in r.both.box.links p).queue ≡ one (is_sent_at place g.out) + count_by (is_sent_at place) rest = ap (count_by (is_sent_at place)) queue ∙ count-cons (is_sent_at place) g.out rest in omega (arith, all, none_sent place, (h.requests.conns p within).queued.sent place))
          (let long : length (of_conn p s.state.noted.handed) ≡ suc (length f.later) = ap length f.waiting in
          let left : length (of_conn p (popped p s.state.noted).handed) ≡ length f.later = ap length here_left in omega (arith, long, left, counted_first, (h.requests.conns p within).queued.noting)) from;
      queued_others = λ q short other. subst (λ ys. IsQueued h.names r.both.trace r.answers r.both.box.undue (of_conn q s.state.replies.waiting) (length ys) (link_in r.both.box.links q)) (sym (others_left q other)) (h.requests.conns q short).queued;
      renoted = moved_renoted (link_in r.both.box.links p).conn f.note f.others h.notes f.split;
      are_noted = noted_moved (link_in r.both.box.links p).conn f.note f.others h.notes f.split r.noted r.handed_notes h.requests.noted;
      noted_here =
          notes_whole notes_now (link_in r.both.box.links p).conn (of_conn p (popped p s.state.noted).handed) (noted_in (of_conn p s.state.unwritten.handed ++ Some f.place ∷ []) (left_to_write (link_in r.both.box.links p) ++ g ∷ []))
          (waiting_here (link_in r.both.box.links p).conn f.note f.others h.notes f.split ∙ f.later_is ∙ sym here_left)
          (handed_here (link_in r.both.box.links p).conn f.note f.others h.notes f.split
          ∙ ap (λ ys. ys ++ Some f.note.place ∷ []) (handed_whole h.notes (link_in r.both.box.links p).conn (of_conn p s.state.noted.handed) written_places (h.requests.conns p within).noted)
          ∙ ap (λ k. written_places ++ Some k ∷ []) f.place_is
          ∙ sym (noted_more (IsAbout h.names h.notes r (link_in r.both.box.links p).conn) (of_conn p s.state.unwritten.handed) (left_to_write (link_in r.both.box.links p)) (Some f.place) g (h.requests.conns p within).written ∙ ap (λ v. written_places ++ cond v (Some f.place ∷ []) []) own));
      noted_others = λ q short other.
          let old = (h.requests.conns q short).noted in
          let waits = of_conn q s.state.noted.handed in
          let left = noted_in (of_conn q s.state.unwritten.handed) (left_to_write (link_in r.both.box.links q)) in
          notes_whole notes_now (link_in r.both.box.links q).conn (of_conn q (popped p s.state.noted).handed) (noted_in (of_conn q s.state.unwritten.handed) (left_to_write (link_in r.both.box.links q)))
          (waiting_elsewhere (link_in r.both.box.links p).conn f.note f.others h.notes f.split (link_in r.both.box.links q).conn (elsewhere q short other)
          ∙ waiting_whole h.notes (link_in r.both.box.links q).conn (of_conn q s.state.noted.handed) left old ∙ sym (others_left q other))
          (handed_elsewhere (link_in r.both.box.links p).conn f.note f.others h.notes f.split (link_in r.both.box.links q).conn (elsewhere q short other)
          ∙ handed_whole h.notes (link_in r.both.box.links q).conn waits left old);
    }
      where
        elsewhere : (q : ℕ) → q < length r.both.box.links → (q ≡ p → ⊥) → (f.note.conn == (link_in r.both.box.links q).conn) ≡ false
        elsewhere q short other = ne_eqb f.note.conn (link_in r.both.box.links q).conn (λ same. other (one_place r.both.box.links q p apart short within (sym same ∙ eqb-true f.note.conn (link_in r.both.box.links p).conn f.split.here)))

    -- and its word is that of the own PDU
    pub noted_word : rules.cookie_noted r (link_in r.both.box.links p).conn ≡ Some (cookie_at f.place s.state.cookies)
    noted_word =
        let some : 1 ≤ count_by (λ (m : Note). m.place == f.note.place && m.cookie == f.note.cookie) h.notes
        = in_counted (λ (m : Note). m.place == f.note.place && m.cookie == f.note.cookie) h.notes f.note there (and_from (f.note.place == f.note.place) (f.note.cookie == f.note.cookie) (eq-eqb f.note.place f.note.place refl) (eq-eqb f.note.cookie f.note.cookie refl)) in
        let q : Passing (λ (y : cookies.Request). y.place == f.note.place && y.cookie == f.note.cookie) s.state.cookies.requests
        = counted_in (λ (y : cookies.Request). y.place == f.note.place && y.cookie == f.note.cookie) s.state.cookies.requests (omega (arith, some, h.requests.kept f.note.place f.note.cookie)) in
        let parts = and_parts (q.x.place == f.note.place) (q.x.cookie == f.note.cookie) q.passes in
        let word : f.note.cookie ≡ cookie_at f.place s.state.cookies = sym (eqb-true q.x.cookie f.note.cookie parts.1) ∙ sym (cookie_there s.state.cookies h.requests.counted q.x q.there) ∙ ap (λ k. cookie_at k s.state.cookies) (eqb-true q.x.place f.note.place parts.0 ∙ f.place_is) in
        ap (λ (x : Option Noted). elim x [ Some n ↦ Some n.cookie | None ↦ None ]) (found_first (link_in r.both.box.links p).conn f.note f.others h.notes f.split r.noted r.handed_notes h.requests.noted) ∙ ap (λ (v : ℕ). Some v) word
