-- The commands that are kept, as one of them changes.
use Rattle.std.proofs.Common.{◌≡◌, ◌≢◌, ℕ, ◌<◌, ◌≤◌, ◌==◌, ◌||◌, inl, inr, cond, Bool, true, false, List, [], ◌∷◌, ◌++◌, map, Option, Some, None, refl, ap, sym, ◌∙◌, arith, ne_eqb}
use Rattle.std.specs.List.{find, list_any}
use Rattle.std.proofs.lemmas.Bool.{eqb-false, eqb-true}
use Rattle.std.proofs.lemmas.List.{length-map}
use Rattle.iscsi_slots.specs.Slots.{times}
use Rattle.iscsi_lists.specs.Lists.{without}
use Rattle.iscsi_lists.proofs.WithoutLemmas.{times_same}
use Rattle.iscsi_arrivals.specs.declared.stamp.Stamp.{Stamp}
use Rattle.iscsi_tracked.specs.declared.command.Command.{Command}
use Rattle.iscsi_tracked.specs.Tracked.{Tracked, is_at, with_command}
use Rattle.iscsi_outbox_law.specs.private.Pairs.{EachOf, InOrder}
use Rattle.iscsi_outbox_law.specs.private.Commands.{ArePlaced}
use Rattle.iscsi_outbox_law.proofs.general.PairLemmas.{each-append, each-map}
use Rattle.iscsi_outbox_law.proofs.general.Members.{In, find_in}

-- ---- lists

module _ {A : Type 0} where
  pub find_map : (p : A → Bool) (f : A → A) (xs : List A) → ((x : A) → p (f x) ≡ p x) → find p (map f xs) ≡ (elim (find p xs) as (λ (y : Option A). Option A) [ Some x ↦ Some (f x) | None ↦ None ])
  find_map p f [] same = refl
  find_map p f (x ∷ xs) same =
      let rest = find_map p f xs same in
      ap (λ (v : Bool). cond v (Some (f x)) (find p (map f xs))) (same x)
      ∙ elim (p x) as (λ v. cond v (Some (f x)) (find p (map f xs)) ≡ (elim (cond v (Some x) (find p xs)) as (λ (y : Option A). Option A) [ Some y ↦ Some (f y) | None ↦ None ])) [
        | true ↦ refl
        | false ↦ rest
      ]

  pub any_map : (p : A → Bool) (f : A → A) (xs : List A) → ((x : A) → p (f x) ≡ p x) → list_any p (map f xs) ≡ list_any p xs
  any_map p f [] same = refl
  any_map p f (x ∷ xs) same = ap (λ (v : Bool). v || list_any p (map f xs)) (same x) ∙ ap (λ (v : Bool). p x || v) (any_map p f xs same)

  pub order_map : (R : A → A → Type 0) (f : A → A) (xs : List A) → ((x y : A) → R x y → R (f x) (f y)) → InOrder R xs → InOrder R (map f xs)
  order_map R f [] keeps h = tt
  order_map R f (x ∷ xs) keeps h = (each-map (R x) (R (f x)) f xs (keeps x) h.0, order_map R f xs keeps h.1)

  pub order_push : (R : A → A → Type 0) (xs : List A) (y : A) → InOrder R xs → EachOf (λ x. R x y) xs → InOrder R (xs ++ y ∷ [])
  order_push R [] y h k = (tt, tt)
  order_push R (x ∷ xs) y h k = (each-append (R x) xs (y ∷ []) h.0 (k.0, tt), order_push R xs y h.1 k.1)

pub each_map_in : {A B : Type 0} (P : A → Type 0) (Q : B → Type 0) (g : A → B) (xs : List A) → ((x : A) → In x xs → P x → Q (g x)) → EachOf P xs → EachOf Q (map g xs)
each_map_in P Q g [] f h = tt
each_map_in P Q g (x ∷ xs) f h = (f x (inl refl) h.0, each_map_in P Q g xs (λ y at k. f y (inr at) k) h.1)

pub each_times : (P : ℕ → Type 0) (ps : List ℕ) → ((q : ℕ) → 1 ≤ times q ps → P q) → EachOf P ps
each_times P [] f = tt
each_times P (p ∷ ps) f =
    (f p (omega (arith, times_same p p ps refl)), each_times P ps (λ q some. f q (omega (arith, some, times_first q p ps))))
  where
    times_first : (q p : ℕ) (ps : List ℕ) → times q ps ≤ times q (p ∷ ps)
    times_first q p ps = omega arith

-- ---- one command changes, and keeps its ticket and its place

pub record KeepsPlace (change : Command → Command) : Type 0 where
  pub ticket : (c : Command) → (change c).ticket ≡ c.ticket
  pub place : (c : Command) → (change c).place ≡ c.place
  pub conn : (c : Command) → (change c).conn ≡ c.conn

abbrev pub at_place : (Command → Command) → ℕ → Command → Command
at_place change place c = cond (is_at place c) (change c) c

module _ (change : Command → Command) (keeps : KeepsPlace change) (place : ℕ) where
  pub same_ticket : (c : Command) → (at_place change place c).ticket ≡ c.ticket
  same_ticket c = elim (is_at place c) as (λ v. (cond v (change c) c).ticket ≡ c.ticket) [ true ↦ keeps.ticket c | false ↦ refl ]

  pub same_place : (c : Command) → (at_place change place c).place ≡ c.place
  same_place c = elim (is_at place c) as (λ v. (cond v (change c) c).place ≡ c.place) [ true ↦ keeps.place c | false ↦ refl ]

  pub has_changed : (n : ℕ) (cs : List Command) → list_any (is_at n) (with_command change place cs) ≡ list_any (is_at n) cs
  has_changed n cs = any_map (is_at n) (at_place change place) cs (λ c. ap (λ k. k == n) (same_place c))

  pub placed_changed : (v : Tracked) (trails : List (List ℕ)) → ArePlaced v → ArePlaced (record v { commands = with_command change place v.commands; trails = trails })
  placed_changed v trails h = record {
    ascending = order_map (λ (c d : Command). c.ticket < d.ticket) (at_place change place) v.commands (λ c d lt. omega (arith, lt, same_ticket c, same_ticket d)) h.ascending;
    newest = each-map (λ (c : Command). c.ticket ≤ v.last) (λ (c : Command). c.ticket ≤ v.last) (at_place change place) v.commands (λ c le. omega (arith, le, same_ticket c)) h.newest;
    apart = order_map (λ (c d : Command). c.place ≢ d.place) (at_place change place) v.commands (λ c d apart same. apart (sym (same_place c) ∙ same ∙ same_place d)) h.apart;
    counted = omega (arith, h.counted, length-map v.commands (at_place change place));
    unused = λ n some. has_changed n v.commands ∙ h.unused n some;
    free_once = h.free_once;
  }

  pub found_changed : (n : ℕ) (cs : List Command) → find (is_at n) (with_command change place cs) ≡ (elim (find (is_at n) cs) as (λ (y : Option Command). Option Command) [ Some c ↦ Some (at_place change place c) | None ↦ None ])
  found_changed n cs = find_map (is_at n) (at_place change place) cs (λ c. ap (λ k. k == n) (same_place c))

  pub ticket_changed : (ticket : ℕ) (cs : List Command) → find (λ (c : Command). c.ticket == ticket) (with_command change place cs) ≡ (elim (find (λ (c : Command). c.ticket == ticket) cs) as (λ (y : Option Command). Option Command) [ Some c ↦ Some (at_place change place c) | None ↦ None ])
  ticket_changed ticket cs = find_map (λ (c : Command). c.ticket == ticket) (at_place change place) cs (λ c. ap (λ k. k == ticket) (same_ticket c))

-- ---- trails

-- how much stands before the last PDU of a command
abbrev pub out_of : Option Command → ℕ
out_of x = elim x as (λ (y : Option Command). ℕ) [ Some c ↦ elim (c.last_out) as (λ (z : Option Stamp). ℕ) [ Some stamp ↦ stamp.place | None ↦ 0 ] | None ↦ 0 ]

each_kept : (out out' : ℕ → ℕ) (place n m : ℕ) → ((p : ℕ) → (p ≡ place → ⊥) → out' p ≡ out p) → m ≡ n → (ps : List ℕ) → EachOf (λ q. n < out q) ps → EachOf (λ q. m < out' q) (without place ps)
each_kept out out' place n m same is [] h = tt
each_kept out out' place n m same is (p ∷ ps) h =
    let rest : EachOf (λ q. m < out' q) (without place ps) = each_kept out out' place n m same is ps h.1 in
    elim (p == place) as (λ v. (p == place) ≡ v → EachOf (λ q. m < out' q) (cond v (without place ps) (p ∷ without place ps))) [
      | true ↦ λ here. rest
      | false ↦ λ apart. ((let e : out' p ≡ out p = same p (eqb-false p place apart) in omega (arith, e, is, h.0)), rest)
    ] refl

pub order_kept : (out out' : ℕ → ℕ) (place : ℕ) → ((p : ℕ) → (p ≡ place → ⊥) → out' p ≡ out p) → (ps : List ℕ) → InOrder (λ (p q : ℕ). out p < out q) ps → InOrder (λ (p q : ℕ). out' p < out' q) (without place ps)
order_kept out out' place same [] h = tt
order_kept out out' place same (p ∷ ps) h =
    let rest : InOrder (λ (x y : ℕ). out' x < out' y) (without place ps) = order_kept out out' place same ps h.1 in
    let later : (p ≡ place → ⊥) → EachOf (λ q. out' p < out' q) (without place ps) = λ apart. each_kept out out' place (out p) (out' p) same (same p apart) ps h.0 in
    elim (p == place) as (λ v. (p == place) ≡ v → InOrder (λ (x y : ℕ). out' x < out' y) (cond v (without place ps) (p ∷ without place ps))) [
      | true ↦ λ here. rest
      | false ↦ λ apart. (later (eqb-false p place apart), rest)
    ] refl

-- all trails without a place, in the order that they had
pub onward_without : (out out' : ℕ → ℕ) (place : ℕ) → ((p : ℕ) → (p ≡ place → ⊥) → out' p ≡ out p) → (trails : List (List ℕ)) → EachOf (InOrder (λ (p q : ℕ). out p < out q)) trails → EachOf (InOrder (λ (p q : ℕ). out' p < out' q)) (map (without place) trails)
onward_without out out' place same trails h =
    each-map (InOrder (λ (p q : ℕ). out p < out q)) (InOrder (λ (p q : ℕ). out' p < out' q)) (without place) trails (λ ps k. order_kept out out' place same ps k) h

-- the last PDU of a command in another place stays
pub other_out : (change : Command → Command) → KeepsPlace change → (place : ℕ) (cs : List Command) (p : ℕ) → (p ≡ place → ⊥)
    → out_of (find (is_at p) (with_command change place cs)) ≡ out_of (find (is_at p) cs)
other_out change keeps place cs p apart = ap out_of (found_changed change keeps place p cs) ∙ by_found (find (is_at p) cs) refl
  where
    by_found : (x : Option Command) → find (is_at p) cs ≡ x → out_of (elim x as (λ (y : Option Command). Option Command) [ Some c ↦ Some (at_place change place c) | None ↦ None ]) ≡ out_of x
    by_found None is = refl
    by_found (Some c) is =
        let at : c.place ≡ p = eqb-true c.place p (find_in (is_at p) cs c is).1 in
        ap (λ (v : Bool). out_of (Some (cond v (change c) c))) (ne_eqb c.place place (λ same. apart (sym at ∙ same)))
