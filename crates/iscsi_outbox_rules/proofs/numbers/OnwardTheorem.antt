-- MaxCmdSN, as the wire shows it, never goes back.
use Rattle.std.proofs.Common.{◌≡◌, ℕ, ⊎_elim, ◌+◌, ◌*◌, ◌≤◌, ◌<◌, ◌^◌, List, [], ◌∷◌, ◌++◌, length, Some, None, refl, ap, sym, subst, ◌∙◌, arith}
use Rattle.iscsi_wire.specs.Serial.{lift, wire, number_of_first}
use Rattle.iscsi_outbox_rules.specs.rules.Calls.{Opening, Call, Nexts}
use Rattle.iscsi_outbox_rules.specs.rules.Boxes.{Outgoing, Handed, Box}
use Rattle.iscsi_outbox_rules.specs.rules.Words.{max_shown}
use Rattle.iscsi_outbox_rules.specs.rules.Handing.{without_chosen}
use Rattle.iscsi_outbox_rules.specs.rules.Run.{opened, after_call, after_calls, answered}
use Rattle.iscsi_outbox_rules.specs.promises.Deeds.{deeds_from, deeds_of, handed_in_deed, FollowsFlow}
use Rattle.iscsi_outbox_rules.specs.promises.Numbers.{GoesOnward}
use Rattle.iscsi_outbox_rules.proofs.general.Cuts.{Cut, cut, Hand, Idle, next, handed-next}
use Rattle.iscsi_outbox_rules.proofs.numbers.ShownLemmas.{shown_near, Rise, rises}
use Rattle.iscsi_outbox_rules.proofs.numbers.FlowRuns.{Ahead, Reached, Stepped, steps, run, starts_along}

-- the wire shows of two numbers, not far apart, which is greater
turned : (m n : ℕ) → m ≤ n → n < m + 2 ^ 31 → number_of_first (wire m) ≤ lift (number_of_first (wire m)) (wire n)
turned m n low high = omega (arith, low, high)

length-deeds : (o : Opening) (b : Box) (cs : List Call) → length (deeds_from o b cs) ≡ length cs
length-deeds o b [] = refl
length-deeds o b (c ∷ cs) = let rest : length (deeds_from o (after_call o b c) cs) ≡ length cs = length-deeds o (after_call o b c) cs in omega (arith, rest)

some_pair : (x y : ℕ × Handed) → Some x ≡ Some y → x ≡ y
some_pair x y h = cc

-- what a PDU shows is what is shown from then on
record Shown (o : Opening) (b : Box) (c : Call) (h : Handed) : Type 0 where
  max_is : h.max ≡ wire (after_call o b c).shown
  near : b.max ≤ (after_call o b c).shown + o.session.window
  same : (after_call o b c).max ≡ b.max

shown_next : (o : Opening) (b : Box) (conn : ℕ) (h : Handed) → handed_in_deed (Nexts conn, answered o b (Nexts conn)) ≡ Some (conn, h) → Shown o b (Nexts conn) h
shown_next o b conn h is =
    ⊎_elim
    (λ (k : Hand o b conn).
    let b' : Box = without_chosen b k.handing.link k.handed.out in
    let same : k.handed ≡ h = ap (λ (g : ℕ × Handed). g.1) (some_pair (conn, k.handed) (conn, h) (sym k.shown ∙ is)) in
    let after : (after_call o b (Nexts conn)).shown ≡ max_shown o b' = ap (λ (x : Box). x.shown) k.after_is in
    let out : k.handed.out ≡ k.handing.out = ap (λ (g : Handed). g.out) k.handing.is in
    record {
      max_is =
          ap (λ (g : Handed). g.max) (sym same ∙ k.handing.is) ∙ ap (λ (x : Outgoing). wire (max_shown o (without_chosen b k.handing.link x))) (sym out) ∙ ap wire (sym after);
      near = subst (λ n. b.max ≤ n + o.session.window) (sym after) (shown_near o b');
      same = ap (λ (x : Box). x.max) k.after_is;
    })
    (λ (k : Idle o b conn). absurd (let none : None ≡ Some (conn, h) = sym k.shown ∙ is in cc))
    (next o b conn)

shown_by : (o : Opening) (b : Box) (c : Call) (conn : ℕ) (h : Handed) → handed_in_deed (c, answered o b c) ≡ Some (conn, h) → Shown o b c h
shown_by o b c conn h is =
    let n = handed-next o b c conn h is in
    subst (λ x. Shown o b x h) (sym n.0) (shown_next o b conn h (ap (λ x. handed_in_deed (x, answered o b x)) (sym n.0) ∙ is))

far : (m₁ m₂ b₂ max₁ max₂ w k : ℕ) → max₁ ≤ m₁ + w → max₂ ≤ max₁ + 1025 * k → ((m : ℕ) → m₁ ≤ m → max₂ ≤ m → b₂ ≤ m) → ((m : ℕ) → b₂ ≤ m → max₂ ≤ m → m₂ ≤ m) → w ≤ 1024 → k < 2 ^ 19 → m₂ < m₁ + 2 ^ 31
far m₁ m₂ b₂ max₁ max₂ w k near rise shown later few short =
    let m : ℕ = m₁ + w + 1025 * k in
    let there : max₂ ≤ m = omega (arith, near, rise) in
    let top : m₂ ≤ m = later m (shown m (omega arith) there) there in
    omega (arith, top, few, short)

pub goes_onward : (o : Opening) (cs : List Call) → FollowsFlow o cs → GoesOnward (deeds_of o cs)
goes_onward o cs f before between after handing later c d h g whole shown shown_later few =
    subst (λ n. number_of_first n ≤ lift (number_of_first n) g.max) (sym s₁.max_is)
    (subst (λ n. number_of_first (wire b₁'.shown) ≤ lift (number_of_first (wire b₁'.shown)) n) (sym s₂.max_is) (turned b₁'.shown b₂'.shown low high))
  where
    k₁ : Cut o (opened o) cs before handing (between ++ later ∷ after)
    k₁ = cut o (opened o) cs before handing (between ++ later ∷ after) whole

    b₁ : Box
    b₁ = after_calls o (opened o) k₁.first

    b₁' : Box
    b₁' = after_call o b₁ k₁.call

    k₂ : Cut o b₁' k₁.rest between later after
    k₂ = cut o b₁' k₁.rest between later after k₁.after_is

    b₂ : Box
    b₂ = after_calls o b₁' k₂.first

    b₂' : Box
    b₂' = after_call o b₂ k₂.call

    s₁ : Shown o b₁ k₁.call h
    s₁ = shown_by o b₁ k₁.call c h (ap handed_in_deed (sym k₁.deed_is) ∙ shown)

    s₂ : Shown o b₂ k₂.call g
    s₂ = shown_by o b₂ k₂.call d g (ap handed_in_deed (sym k₂.deed_is) ∙ shown_later)

    ahead : (h : List _) (xs ys : List Call) → xs ≡ ys → Ahead o h xs → Ahead o h ys
    ahead h xs ys same a = subst (Ahead o h) same a

    r₁ : Reached o (opened o) k₁.first (k₁.call ∷ k₁.rest)
    r₁ = run o [] (opened o) k₁.first (k₁.call ∷ k₁.rest) (starts_along o) (ahead [] cs (k₁.first ++ k₁.call ∷ k₁.rest) k₁.calls_are (record { rest = f.events; entries = f.follows; flows = f.flows; window = f.window }))

    one : Stepped o b₁ k₁.call k₁.rest
    one = steps o r₁.events b₁ k₁.call k₁.rest r₁.along r₁.ahead

    r₂ : Reached o b₁' k₂.first (k₂.call ∷ k₂.rest)
    r₂ = run o one.events b₁' k₂.first (k₂.call ∷ k₂.rest) one.along (ahead one.events k₁.rest (k₂.first ++ k₂.call ∷ k₂.rest) k₂.calls_are one.ahead)

    rise : Rise b₂ b₂' k₂.call
    rise = rises o b₂ k₂.call

    low : b₁'.shown ≤ b₂'.shown
    low = omega (arith, r₂.risen.low, rise.low)

    short : length k₂.first < 2 ^ 19
    short = subst (λ n. n < 2 ^ 19) (ap length k₂.before_is ∙ length-deeds o b₁' k₂.first) few

    high : b₂'.shown < b₁'.shown + 2 ^ 31
    high = far b₁'.shown b₂'.shown b₂.shown b₁'.max b₂.max o.session.window (length k₂.first) (subst (λ n. n ≤ b₁'.shown + o.session.window) (sym s₁.same) s₁.near) r₂.risen.near r₂.risen.high rise.high f.window short
