-- Deeds that are cut at one call, and what stands for the deeds before it.
use Rattle.std.proofs.Common.{◌≡◌, ℕ, ◌⊎◌, inl, inr, cond, Bool, true, false, List, [], ◌∷◌, ◌++◌, Option, Some, None, refl, ap, sym, subst, ◌∙◌}
use Rattle.std.proofs.lemmas.List.{append_assoc, append-nil}
use Rattle.iscsi_outbox_rules.specs.rules.Calls.{Opening, Call, Takes, Puts, Stops, Nexts, Writes, Hears, Joins, Loses, Clears}
use Rattle.iscsi_outbox_rules.specs.rules.Boxes.{Outgoing, Handed, Link, Box}
use Rattle.iscsi_outbox_rules.specs.rules.Handing.{Given, Hands, Nothing, IsOver, link_of, chosen, handed_as, is_over, given_on, given, after_given}
use Rattle.iscsi_outbox_rules.specs.rules.Run.{Gives, opened, after_call, after_calls, after_next, answered}
use Rattle.iscsi_outbox_rules.specs.promises.Deeds.{Deed, deeds_from, deeds_of, given_in, handed_by, handed_in_deed}

pub record Cut (o : Opening) (b : Box) (cs : List Call) (before : List Deed) (deed : Deed) (after : List Deed) : Type 0 where
  pub first : List Call
  pub call : Call
  pub rest : List Call
  pub calls_are : cs ≡ first ++ call ∷ rest
  pub before_is : before ≡ deeds_from o b first
  pub deed_is : deed ≡ (call, answered o (after_calls o b first) call)
  pub after_is : after ≡ deeds_from o (after_call o (after_calls o b first) call) rest

later : (o : Opening) (b : Box) (c : Call) (cs : List Call) (x : Deed) (before : List Deed) (deed : Deed) (after : List Deed) → x ≡ (c, answered o b c)
    → Cut o (after_call o b c) cs before deed after → Cut o b (c ∷ cs) (x ∷ before) deed after
later o b c cs x before deed after head t = record {
  first = c ∷ t.first;
  call = t.call;
  rest = t.rest;
  calls_are = ap (λ ys. c ∷ ys) t.calls_are;
  before_is = ap (λ y. y ∷ before) head ∙ ap (λ ys. (c, answered o b c) ∷ ys) t.before_is;
  deed_is = t.deed_is;
  after_is = t.after_is;
}

pub cut : (o : Opening) (b : Box) (cs : List Call) (before : List Deed) (deed : Deed) (after : List Deed) → before ++ deed ∷ after ≡ deeds_from o b cs → Cut o b cs before deed after
cut o b [] [] deed after h = absurd cc
cut o b [] (x ∷ before) deed after h = absurd cc
cut o b (c ∷ cs) [] deed after h = record { first = []; call = c; rest = cs; calls_are = refl; before_is = refl; deed_is = cc; after_is = cc }
cut o b (c ∷ cs) (x ∷ before) deed after h =
    let head : x ≡ (c, answered o b c) = cc in
    let tail : before ++ deed ∷ after ≡ deeds_from o (after_call o b c) cs = cc in
    later o b c cs x before deed after head (cut o (after_call o b c) cs before deed after tail)

-- what each call keeps
pub keeps : (o : Opening) (I : List Deed → Box → Type 0) → ((ds : List Deed) (b : Box) (c : Call) → I ds b → I (ds ++ (c, answered o b c) ∷ []) (after_call o b c))
    → (ds : List Deed) (b : Box) (cs : List Call) → I ds b → I (ds ++ deeds_from o b cs) (after_calls o b cs)
keeps o I step ds b [] h = subst (λ es. I es b) (sym (append-nil ds)) h
keeps o I step ds b (c ∷ cs) h =
    subst (λ es. I es (after_calls o (after_call o b c) cs)) (append_assoc ds ((c, answered o b c) ∷ []) (deeds_from o (after_call o b c) cs))
    (keeps o I step (ds ++ (c, answered o b c) ∷ []) (after_call o b c) cs (step ds b c h))

-- a PDU is handed out
pub record Handing (o : Opening) (b : Box) (conn : ℕ) (h : Handed) : Type 0 where
  pub link : Link
  pub found : link_of b conn ≡ Some link
  pub out : Outgoing
  pub chosen_is : chosen o b link ≡ Some out
  pub is : h ≡ handed_as o b link out

hands-given : (o : Opening) (b : Box) (conn : ℕ) (l : Link) → link_of b conn ≡ Some l → (x : Option Outgoing) → chosen o b l ≡ x → (h : Handed) → given_on o b l ≡ Hands h → Handing o b conn h
hands-given o b conn l found None none h is =
    absurd (by_over (is_over b l) (ap (λ y. elim y [ Some out ↦ Hands (handed_as o b l out) | None ↦ cond (is_over b l) IsOver Nothing ]) (sym none) ∙ is))
  where
    by_over : (v : Bool) → cond v IsOver Nothing ≡ Hands h → ⊥
    by_over true e = absurd cc
    by_over false e = absurd cc
hands-given o b conn l found (Some out) some h is =
    let e : Hands (handed_as o b l out) ≡ Hands h = ap (λ y. elim y [ Some out ↦ Hands (handed_as o b l out) | None ↦ cond (is_over b l) IsOver Nothing ]) (sym some) ∙ is in
    record { link = l; found = found; out = out; chosen_is = some; is = cc }

hands : (o : Opening) (b : Box) (conn : ℕ) (x : Option Link) → link_of b conn ≡ x → (h : Handed) → given o b conn ≡ Hands h → Handing o b conn h
hands o b conn None none h is =
    let e : Nothing ≡ Hands h = ap (λ y. elim y [ Some l ↦ given_on o b l | None ↦ Nothing ]) (sym none) ∙ is in absurd cc
hands o b conn (Some l) some h is =
    hands-given o b conn l some (chosen o b l) refl h (ap (λ y. elim y [ Some m ↦ given_on o b m | None ↦ Nothing ]) (sym some) ∙ is)

-- what a call for the next PDU comes to
pub record Hand (o : Opening) (b : Box) (conn : ℕ) : Type 0 where
  pub handed : Handed
  pub handing : Handing o b conn handed
  pub shown : handed_in_deed (Nexts conn, answered o b (Nexts conn)) ≡ Some (conn, handed)
  pub after_is : after_next o b conn ≡ after_given o b handing.link handed

pub record Idle (o : Opening) (b : Box) (conn : ℕ) : Type 0 where
  pub shown : handed_in_deed (Nexts conn, answered o b (Nexts conn)) ≡ None
  pub after_is : after_next o b conn ≡ b

-- what the box is, by what it gives
abbrev after_by : Opening → Box → Option Link → Given → Box
after_by o b x g = elim x [ Some l ↦ elim g [ Hands h ↦ after_given o b l h | Nothing ↦ b | IsOver ↦ b ] | None ↦ b ]

pub next : (o : Opening) (b : Box) (conn : ℕ) → Hand o b conn ⊎ Idle o b conn
next o b conn = by_given (given o b conn) refl
  where
    shown_by : Given → Option (ℕ × Handed)
    shown_by g = handed_by (Nexts conn) (given_in (Gives g))

    idle : (g : Given) → given o b conn ≡ g → shown_by g ≡ None → ((x : Option Link) → after_by o b x g ≡ b) → Idle o b conn
    idle g is none same = record { shown = ap shown_by is ∙ none; after_is = ap (after_by o b (link_of b conn)) is ∙ same (link_of b conn) }

    by_given : (g : Given) → given o b conn ≡ g → Hand o b conn ⊎ Idle o b conn
    by_given (Hands h) is =
        let g : Handing o b conn h = hands o b conn (link_of b conn) refl h is in
        inl (record {
          handed = h;
          handing = g;
          shown = ap shown_by is;
          after_is = ap (after_by o b (link_of b conn)) is ∙ ap (λ x. after_by o b x (Hands h)) g.found;
        })
    by_given Nothing is = inr (idle Nothing is refl (λ x. elim x as (λ y. after_by o b y Nothing ≡ b) [ Some l ↦ refl | None ↦ refl ]))
    by_given IsOver is = inr (idle IsOver is refl (λ x. elim x as (λ y. after_by o b y IsOver ≡ b) [ Some l ↦ refl | None ↦ refl ]))

some_same : (x y : ℕ × Handed) → Some x ≡ Some y → x ≡ y
some_same x y h = cc

-- a deed that hands out is such a call
pub handed-next : (o : Opening) (b : Box) (call : Call) (conn : ℕ) (h : Handed) → handed_in_deed (call, answered o b call) ≡ Some (conn, h) → (call ≡ Nexts conn) × Handing o b conn h
handed-next o b (Takes effects numbers) conn h is = absurd cc
handed-next o b (Puts p) conn h is = absurd cc
handed-next o b (Stops ticket) conn h is = absurd cc
handed-next o b (Writes c) conn h is = absurd cc
handed-next o b (Hears c exp_stat_sn tag) conn h is = absurd cc
handed-next o b (Joins c stat_sn) conn h is = absurd cc
handed-next o b (Loses c) conn h is = absurd cc
handed-next o b (Clears unit) conn h is = absurd cc
handed-next o b (Nexts c) conn h is = by_given (given o b c) refl is
  where
    by_given : (g : Given) → given o b c ≡ g → handed_by (Nexts c) (given_in (Gives g)) ≡ Some (conn, h) → (Nexts c ≡ Nexts conn) × Handing o b conn h
    by_given (Hands k) e some =
        let pair = some_same (c, k) (conn, h) some in
        let same : c ≡ conn = ap (λ p. p.0) pair in
        let same_h : k ≡ h = ap (λ p. p.1) pair in
        (ap Nexts same, subst (λ d. Handing o b d h) same (hands o b c (link_of b c) refl h (e ∙ ap Hands same_h)))
    by_given Nothing e some = absurd cc
    by_given IsOver e some = absurd cc

-- ---- one handing, in the deeds of a list of calls

-- what holds of the deeds before it and the box then
pub at_handing : (o : Opening) (cs : List Call) (I : List Deed → Box → Type 0) → ((ds : List Deed) (b : Box) (c : Call) → I ds b → I (ds ++ (c, answered o b c) ∷ []) (after_call o b c))
    → I [] (opened o) → (before after : List Deed) (deed : Deed) (conn : ℕ) (h : Handed)
    → before ++ deed ∷ after ≡ deeds_of o cs → handed_in_deed deed ≡ Some (conn, h) → (b : Box) × I before b × Handing o b conn h × (deed ≡ (Nexts conn, answered o b (Nexts conn)))
at_handing o cs I step start before after deed conn h all is =
    let c : Cut o (opened o) cs before deed after = cut o (opened o) cs before deed after all in
    let b : Box = after_calls o (opened o) c.first in
    let stands : I (deeds_from o (opened o) c.first) b = keeps o I step [] (opened o) c.first start in
    let n = handed-next o b c.call conn h (ap handed_in_deed (sym c.deed_is) ∙ is) in
    (b, subst (λ ds. I ds b) (sym c.before_is) stands, n.1, c.deed_is ∙ ap (λ d. (d, answered o b d)) n.0)
