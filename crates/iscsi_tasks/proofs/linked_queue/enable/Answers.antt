use Rattle.std.proofs.Common.{◌≡◌, ◌≢◌, ◌∙◌, ◌+◌, ◌<◌, ◌≤◌, ℕ, List, length, get_or, set, ap, sym, subst, arith}
use Rattle.std.proofs.lemmas.List.{get_or_default}
use Rattle.std.proofs.lemmas.List.Edits.{map_over_more}
use Rattle.iscsi_tasks.proofs.Names.{common_steps, times, Member, BLANK, enabled_now, Chained, chained}
use Rattle.iscsi_tasks.proofs.ChainLemmas.{same_to_end}
use Rattle.iscsi_tasks.proofs.CountLemmas.{enabled_up_to, parts-length}
use Rattle.iscsi_tasks.proofs.MarkedLemmas.{some_at}
use Rattle.iscsi_tasks.proofs.linked_queue.enable.Goals as goal

pub returns-then-slot-to : goal.returns-then-slot-to
returns-then-slot-to c i j order within from to enabled =
    let now = c.loop.invariant i j order within from to in
    let end = same_to_end c.len-end.ensures.apart (i + c.loop.counter) j (let a = now.within in omega (arith, a, within)) within (sym now.there ∙ c.if-slot-to.true ∙ to) in
    now.state enabled ∙ ap (λ n. chained c.args.chain.now.slots (enabled_up_to n c.args.chain.now.members) c.args.chain.now.room) end

-- a slot that isn't the last one is before it
before_end : (n slot last : ℕ) (slots : List ℕ) (low high : ℕ) → slot ≡ get_or slots (low + n) 0 → low + n ≤ high → high ≤ length slots → last ≡ get_or slots high 0 → (slot ≡ last → ⊥) → low + n < length slots
before_end n slot last slots low high there within most last_is other = grind (arith, common_steps)

pub enable-requires : goal.enable-requires
enable-requires c =
    let s = c.requires in
    let now = c.loop.invariant s.low s.high s.ordered s.within s.from_is s.to_is in
    subst (λ ss. 1 ≤ times c.loop.slot ss) (sym now.slots) (some_at c.args.chain.now.slots (s.low + c.loop.counter) c.loop.slot (before_end c.loop.counter c.loop.slot c.args.to c.args.chain.now.slots s.low s.high now.there now.within s.within s.to_is c.if-slot-to.false) (sym now.there))

-- the chain, once the command is enabled
enabled_one : (c : goal.After-enable) → (k : ℕ) → k < length c.args.chain.now.slots → get_or c.args.chain.now.slots k 0 ≡ c.loop.slot → c.loop.chain.slots ≡ c.args.chain.now.slots
    → c.enable.new.self ≡ record c.loop.chain { members = set c.loop.chain.members k (enabled_now (get_or c.loop.chain.members k BLANK)) }
enabled_one c k l at same = c.enable.ensures k BLANK (subst (λ ss. k < length ss) (sym same) l) (ap (λ ss. get_or ss k 0) same ∙ at)

pub after-slot-requires : goal.after-slot-requires
after-slot-requires c =
    let s = c.requires in
    let now = c.loop.invariant s.low s.high s.ordered s.within s.from_is s.to_is in
    let l = before_end c.loop.counter c.loop.slot c.args.to c.args.chain.now.slots s.low s.high now.there now.within s.within s.to_is c.if-slot-to.false in
    subst (λ ss. 1 ≤ times c.loop.slot ss) (sym (ap (λ (v : Chained). v.slots) (enabled_one c (s.low + c.loop.counter) l (sym now.there) now.slots) ∙ now.slots))
    (some_at c.args.chain.now.slots (s.low + c.loop.counter) c.loop.slot l (sym now.there))

pub loop-preserved : goal.loop-preserved
loop-preserved c i j order within from to =
    let now = c.loop.invariant i j order within from to in
    let slots = c.args.chain.now.slots in
    let list = c.args.chain.now.members in
    let at : ℕ = i + c.loop.counter in
    let l = before_end c.loop.counter c.loop.slot c.args.to slots i j now.there now.within within to c.if-slot-to.false in
    let one = c.enable.ensures at BLANK (subst (λ ss. at < length ss) (sym now.slots) l) (ap (λ ss. get_or ss at 0) now.slots ∙ sym now.there) in
    let next : i + (c.loop.counter + 1) ≡ at + 1 = omega arith in
    let all : c.enable.new.self.slots ≡ slots = ap (λ (v : Chained). v.slots) one ∙ now.slots in
    let up_to = now.within in
    let apart_end : at ≢ j = λ e. c.if-slot-to.false (now.there ∙ ap (λ n. get_or slots n 0) e ∙ sym to) in
    record {
      there = c.after-slot.ensures at (subst (λ ss. at < length ss) (sym all) l) (ap (λ ss. get_or ss at 0) all ∙ sym now.there)
          ∙ ap (λ ss. get_or ss (at + 1) 0) all ∙ ap (λ n. get_or slots n 0) (sym next);
      within = omega (arith, up_to, apart_end);
      slots = all;
      state = λ enabled.
          let was = now.state enabled in
          let long : at < length list = let a = c.len-end.ensures.len in let b = c.len-end.ensures.slots in omega (arith, a, b, l) in
          let items = ap (λ (v : Chained). v.members) was in
          let m : Member = get_or c.loop.chain.members at BLANK in
          let kept : at < length c.loop.chain.members = let e = ap length items in let p = parts-length list at in omega (arith, e, p, long) in
          let more : set c.loop.chain.members at (enabled_now m) ≡ enabled_up_to (at + 1) list =
          map_over_more enabled_now list c.loop.chain.members at m long items (get_or_default c.loop.chain.members at BLANK m kept) in
          one ∙ ap (λ (v : Chained). chained v.slots (set c.loop.chain.members at (enabled_now m)) v.room) was
          ∙ ap (λ ms. chained slots ms c.args.chain.now.room) (more ∙ ap (λ n. enabled_up_to n list) (sym next));
    }

pub returns : goal.returns
returns c i j order within from to enabled =
    let now = c.loop.invariant i j order within from to in
    let end : i + c.loop.counter ≡ j = let a = now.within in let b = c.len-end.ensures.slots in let past = c.loop-test.false in omega (arith, a, b, past, within) in
    now.state enabled ∙ ap (λ n. chained c.args.chain.now.slots (enabled_up_to n c.args.chain.now.members) c.args.chain.now.room) end
