-- What is under way of a command is under way on its connection.
use Rattle.std.proofs.Common.{◌≡◌, ℕ, ◌<◌, ◌==◌, ◌&&◌, ⊎_elim, cond, Bool, true, false, List, [], ◌∷◌, Option, Some, None, refl, ap, sym, subst, ◌∙◌, arith}
use Rattle.std.specs.List.{list_any}
use Rattle.std.proofs.lemmas.Bool.{and_parts, eqb-true, false≢true, false_from_ne_true}
use Rattle.iscsi_outbox_rules.specs.rules.Calls.{Opening}
use Rattle.iscsi_outbox_rules.specs.rules.Boxes.{Task, Outgoing, Handed, Link, Box}
use Rattle.iscsi_outbox_rules.specs.rules.Words.{has_under_way, is_of, is_open, looks_for_arrival, unarrived, under_way, unwritten}
use Rattle.iscsi_outbox_rules.specs.rules.Run.{new_link}
use Rattle.iscsi_outbox_law.specs.private.Pairs.{EachOf, InOrder}
use Rattle.iscsi_outbox_law.specs.private.Commands.{is_under_way, link_in}
use Rattle.iscsi_outbox_law.specs.private.Sound.{HasHome, HaveHomes}
use Rattle.iscsi_outbox_law.proofs.general.PairLemmas.{each-at}
use Rattle.iscsi_outbox_law.proofs.general.Members.{In, any_found, each-in}
use Rattle.iscsi_outbox_law.proofs.general.PlaceLemmas.{AreApart, IsPlace, conns_of, one_place, only_at}
use Rattle.iscsi_outbox_law.proofs.sending.Fencing.{any_drop}

pub none_under : (o : Opening) (test : Handed → Bool) (l : Link) → list_any test l.handed ≡ false → list_any test (under_way o l) ≡ false
none_under o test l none = by_tests (is_open l) (looks_for_arrival o)
  where
    by_tests : (v w : Bool) → list_any test (cond v (cond w (unarrived l) (unwritten l)) []) ≡ false
    by_tests true true = any_drop test l.arrived l.handed none
    by_tests true false = any_drop test l.written l.handed none
    by_tests false w = refl

-- no two commands have one ticket
pub one_task : (ts : List Task) (x y : Task) → InOrder (λ (u w : Task). u.ticket < w.ticket) ts → In x ts → In y ts → x.ticket ≡ y.ticket → x ≡ y
one_task [] x y h i j same = absurd i
one_task (z ∷ ts) x y h i j same =
    ⊎_elim
    (λ first. ⊎_elim (λ second. first ∙ sym second) (λ later. absurd (let lt : z.ticket < y.ticket = each-in (λ (w : Task). z.ticket < w.ticket) ts y later h.0 in omega (arith, lt, same, ap (λ (w : Task). w.ticket) first))) j)
    (λ later. ⊎_elim
    (λ second. absurd (let lt : z.ticket < x.ticket = each-in (λ (w : Task). z.ticket < w.ticket) ts x later h.0 in omega (arith, lt, same, ap (λ (w : Task). w.ticket) second)))
    (λ behind. one_task ts x y h.1 later behind same) j) i

-- a ticket is that of one command alone
pub one_home : (tasks : List Task) (t : Task) (conn : ℕ) → InOrder (λ (x y : Task). x.ticket < y.ticket) tasks → In t tasks
    → list_any (λ (x : Task). x.ticket == t.ticket && x.conn == conn) tasks ≡ true → t.conn ≡ conn
one_home tasks t conn order at some =
    let k : (x : Task) × In x tasks × ((x.ticket == t.ticket && x.conn == conn) ≡ true) = any_found (λ (x : Task). x.ticket == t.ticket && x.conn == conn) tasks some in
    let parts = and_parts (k.0.ticket == t.ticket) (k.0.conn == conn) k.2 in
    let same : k.0 ≡ t = one_task tasks k.0 t order k.1 at (eqb-true k.0.ticket t.ticket parts.0) in
    sym (ap (λ (x : Task). x.conn) same) ∙ eqb-true k.0.conn conn parts.1

home_of : (tasks : List Task) (t : Task) (conn : ℕ) (out : Outgoing) → InOrder (λ (x y : Task). x.ticket < y.ticket) tasks → In t tasks → HasHome tasks conn out → is_of (λ k. k == t.ticket) out ≡ true → t.conn ≡ conn
home_of tasks t conn out order at home is = by_ticket (out.ticket) home is
  where
    by_ticket : (x : Option ℕ) → (elim x as (λ (y : Option ℕ). Type 0) [ Some k ↦ list_any (λ (y : Task). y.ticket == k && y.conn == conn) tasks ≡ true | None ↦ Unit {0} ])
        → elim x [ Some ticket ↦ ticket == t.ticket | None ↦ false ] ≡ true → t.conn ≡ conn
    by_ticket None k it = absurd (false≢true it)
    by_ticket (Some n) k it = one_home tasks t conn order at (subst (λ m. list_any (λ (y : Task). y.ticket == m && y.conn == conn) tasks ≡ true) (eqb-true n t.ticket it) k)

-- something of a command was handed out on its own connection
pub handed_home : (o : Opening) (tasks : List Task) (t : Task) (l : Link) → InOrder (λ (x y : Task). x.ticket < y.ticket) tasks → In t tasks → EachOf (λ (h : Handed). HasHome tasks l.conn h.out) l.handed
    → has_under_way o (λ k. k == t.ticket) l ≡ true → t.conn ≡ l.conn
handed_home o tasks t l order at homes some =
    let test : Handed → Bool = λ h. is_of (λ k. k == t.ticket) h.out in
    let whole : list_any test l.handed ≡ true = by_any (list_any test l.handed) refl in
    let k : (h : Handed) × In h l.handed × (test h ≡ true) = any_found test l.handed whole in
    home_of tasks t l.conn k.0.out order at (each-in (λ (h : Handed). HasHome tasks l.conn h.out) l.handed k.0 k.1 homes) k.2
  where
    by_any : (v : Bool) → list_any (λ (h : Handed). is_of (λ k. k == t.ticket) h.out) l.handed ≡ v → list_any (λ (h : Handed). is_of (λ k. k == t.ticket) h.out) l.handed ≡ true
    by_any true is = is
    by_any false is = absurd (false≢true (sym (none_under o (λ (h : Handed). is_of (λ k. k == t.ticket) h.out) l is) ∙ some))

-- so it is under way just where it is under way there
pub under_here : (o : Opening) (b : Box) (t : Task) (p : ℕ) → HaveHomes b → AreApart (conns_of b.links) → In t b.tasks → IsPlace b.links t.conn p
    → is_under_way o b.links t.ticket ≡ has_under_way o (λ k. k == t.ticket) (link_in b.links p)
under_here o b t p homes apart at place =
    only_at (has_under_way o (λ k. k == t.ticket)) b.links p place.within
    (λ n lt other. false_from_ne_true (has_under_way o (λ k. k == t.ticket) (link_in b.links n)) (λ some.
    other (one_place b.links n p apart lt place.within
    (sym (handed_home o b.tasks t (link_in b.links n) homes.ascending at (each-at (λ (l : Link). EachOf (λ (h : Handed). HasHome b.tasks l.conn h.out) l.handed) b.links n (new_link 0) lt homes.handed) some) ∙ sym place.is))))
