use Rattle.std.proofs.Common.{◌≡◌, ◌∙◌, ◌+◌, ◌<◌, ◌≤ℤ◌, ◌++◌, ◌∷◌, [], ℕ, suc, List, Bool, true, false, length, get_or, take, drop, All, ap, sym, arith}
use Rattle.std.specs.List.{remove}
use Rattle.std.proofs.lemmas.Int.{ints}
use Rattle.std.proofs.lemmas.List.{get_or_default, get_or-drop, length-drop, append_assoc, append-nil}
use Rattle.std.proofs.lemmas.List.Edits.{get_or-remove_above}
use Rattle.iscsi_tasks.proofs.Names.{common_steps, Task, Member, is_covered, IsAscending, covered_from, BLANK, Chained, member_of, covered_tickets}
use Rattle.iscsi_tasks.proofs.PassingLemmas.{place_in, kept_yet, passed, yet_at, yet_without, yet_with, yet_all, tickets_more, tickets_all}
use Rattle.iscsi_tasks.proofs.linked_front.keep_uncovered.Goals as goal

-- the command there, as it was read
read_at : (covers : Member → Bool) (list members : List Member) (k : ℕ) (m : Member) → k < length list → members ≡ kept_yet covers list k → m ≡ get_or members (passed covers list k) BLANK → m ≡ get_or list k BLANK
read_at covers list members k m l same read = read ∙ ap (λ ms. get_or ms (passed covers list k) BLANK) same ∙ yet_at covers list k BLANK l

-- where numbers go up, none is covered behind one that no younger one is covered behind
none_behind : (covers : Task → Bool) (list : List Member) (k : ℕ) (m : Member) → k < length list → m ≡ get_or list k BLANK → IsAscending list → ((t : Task) → covered_from m.task ≤ℤ covered_from t → covers t ≡ false) → All (λ (x : Member). covers x.task ≡ false) (drop k list)
none_behind covers list k m l read up past j d j_in =
    let long = length-drop k list in
    let inside : k + j < length list = omega (arith, j_in, long, l) in
    let here : covered_from m.task ≡ covered_from (get_or list k d).task = ap (λ (x : Member). covered_from x.task) (read ∙ get_or_default list k BLANK d l) in
    grind (arith, common_steps, get_or-drop, covered_from, ints)

-- from here on none is covered
rest : (c : goal.Then-is_past) → All (λ (x : Member). is_covered c.args.cover.now x.task ≡ false) (drop c.loop.counter c.args.chain.now.members)
rest c =
    let inv = c.loop.invariant in
    let covers = λ (m : Member). is_covered c.args.cover.now m.task in
    let list = c.args.chain.now.members in
    let l : c.loop.counter < length list = let a = c.len-end.ensures.len in omega (arith, a) in
    let p = place_in covers list c.loop.chain.members c.loop.chain.slots c.loop.counter l inv.members inv.marked.long in
    let m : Member = member_of c.at.result.now in
    let read = read_at covers list c.loop.chain.members c.loop.counter m l inv.members (c.at.ensures (passed covers list c.loop.counter) BLANK p (sym inv.there)) in
    none_behind (is_covered c.args.cover.now) list c.loop.counter m l read (c.requires.ascending (c.is_past.ensures.ascends c.if-is_past.true)) (λ t up. c.is_past.ensures.none t c.if-is_past.true up)

pub returns-then-is_past : goal.returns-then-is_past
returns-then-is_past c = grind (arith, common_steps, yet_all, is_covered, rest, tickets_all)

pub loop-preserved-then-not-covers : goal.loop-preserved-then-not-covers
loop-preserved-then-not-covers c =
    let inv = c.loop.invariant in
    let covers = λ (m : Member). is_covered c.args.cover.now m.task in
    let list = c.args.chain.now.members in
    let k : ℕ = c.loop.counter in
    let next : k + 1 ≡ suc k = omega arith in
    let l : k < length list = let a = c.len-end.ensures.len in omega (arith, a) in
    let p = place_in covers list c.loop.chain.members c.loop.chain.slots k l inv.members inv.marked.long in
    let m : Member = member_of c.at.result.now in
    let read = read_at covers list c.loop.chain.members k m l inv.members (c.at.ensures (passed covers list k) BLANK p (sym inv.there)) in
    let stays : covers (get_or list k BLANK) ≡ false = ap covers (sym read) ∙ sym c.covers.ensures ∙ c.if-not-covers.true in
    let more = yet_with covers list k BLANK l stays in
    let tickets = tickets_more (is_covered c.args.cover.now) list k BLANK false l stays in
    let follows = c.after-next.ensures (passed covers list k) p (sym inv.there) in
    grind (arith, common_steps, more.0, more.1, tickets, follows, append-nil (covered_tickets (is_covered c.args.cover.now) (take k list)))

pub loop-preserved : goal.loop-preserved
loop-preserved c =
    let inv = c.loop.invariant in
    let covers = λ (m : Member). is_covered c.args.cover.now m.task in
    let list = c.args.chain.now.members in
    let k : ℕ = c.loop.counter in
    let next : k + 1 ≡ suc k = omega arith in
    let l : k < length list = let a = c.len-end.ensures.len in omega (arith, a) in
    let at : ℕ = passed covers list k in
    let p = place_in covers list c.loop.chain.members c.loop.chain.slots k l inv.members inv.marked.long in
    let m : Member = member_of c.at.result.now in
    let read = read_at covers list c.loop.chain.members k m l inv.members (c.at.ensures at BLANK p (sym inv.there)) in
    let goes : covers (get_or list k BLANK) ≡ true = ap covers (sym read) ∙ sym c.covers.ensures ∙ c.if-not-covers.false in
    let less = yet_without covers list k BLANK l goes in
    let state = c.remove.ensures.state at p (sym inv.there) in
    let spent = inv.spent in let pushed = c.push_reserved.ensures.len in
    record {
      members = ap (λ (v : Chained). v.members) state ∙ ap (λ ms. remove ms at) inv.members ∙ less.0 ∙ ap (kept_yet covers list) (sym next);
      there = c.after-next.ensures at p (sym inv.there)
          ∙ sym (ap (λ (v : Chained). get_or v.slots (passed covers list (k + 1)) 0) state
          ∙ ap (λ n. get_or (remove c.loop.chain.slots at) n 0) (ap (passed covers list) next ∙ less.1)
          ∙ get_or-remove_above c.loop.chain.slots at 0 at (omega arith) p);
      left = c.push_reserved.ensures.items ∙ ap (λ ts. ts ++ c.at.result.now.task.ticket ∷ []) inv.left ∙ append_assoc c.args.left.now.items (covered_tickets (is_covered c.args.cover.now) (take k list)) (c.at.result.now.task.ticket ∷ [])
          ∙ ap (λ ts. c.args.left.now.items ++ ts) (ap (λ (x : Member). covered_tickets (is_covered c.args.cover.now) (take k list) ++ x.task.ticket ∷ []) read ∙ sym (tickets_more (is_covered c.args.cover.now) list k BLANK true l goes));
      spent = omega (arith, spent, pushed);
      marked = c.remove.ensures.marked;
      room = ap (λ (v : Chained). v.room) state ∙ inv.room;
      capacity = c.push_reserved.ensures.capacity ∙ inv.capacity;
    }
