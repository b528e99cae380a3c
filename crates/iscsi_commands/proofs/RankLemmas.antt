-- Where the live commands stand once they have closed up.
use Rattle.std.proofs.Common.{◌≡◌, ◌≢◌, ℕ, zero, suc, ◌+◌, ◌<◌, ◌≤◌, Bool, false, List, [], ◌∷◌, ◌++◌, length, length-append, map, filter, get_or, set, take, cond, refl, ap, sym, ◌∙◌, arith, ⊎_elim}
use Rattle.std.proofs.lemmas.Bool.{cases_Bool, false≢true}
use Rattle.std.proofs.lemmas.List.{append-nil, map-append, get_or-map, get_or-set_same, get_or-set_other, length-map, length-set, take_more, take_more_set}
use Rattle.std.proofs.lemmas.List.Elements.{filter-append}
use Rattle.iscsi_slots.specs.Places.{AreAscending}
use Rattle.iscsi_slots.proofs.SlotLemmas.{stands, times_at}
use Rattle.iscsi_commands.specs.declared.entry.Entry.{Entry}
use Rattle.iscsi_commands.specs.Log.{NOTHING, entry_at, tag_at, IsLiveAt, ended, group_of, live_in, rank, AreMarked, AreMoved, AreTagged}
use Rattle.iscsi_commands.proofs.LogLemmas.{live_within, one_fewer, group_below}
use Rattle.iscsi_commands.proofs.TagIndexLemmas.{other_live}

pub rank_below : (log : List Entry) (k : ℕ) → rank log k ≤ k
rank_below [] zero = omega arith
rank_below [] (suc k) = omega arith
rank_below (e ∷ log) zero = omega arith
rank_below (e ∷ log) (suc k) = grind (arith, rank_below log k)

-- one more stands before the next place, if this command is live
rank_more : (log : List Entry) (k : ℕ) → k < length log → rank log (k + 1) ≡ rank log k + cond (entry_at log k).is_live 1 0
rank_more log k inside = rw (take_more log k NOTHING inside, filter-append, map-append, length-append) (grind arith)

-- a live command stands at its rank
pub at_rank : (log : List Entry) (k : ℕ) → IsLiveAt log k → entry_at (filter (λ (x : Entry). x.is_live) log) (rank log k) ≡ entry_at log k
at_rank [] k live = absurd (false≢true live)
at_rank (e ∷ log) zero live = grind arith
at_rank (e ∷ log) (suc k) live = grind (arith, at_rank log k live)

pub record HasRank (log : List Entry) (n : ℕ) : Type 0 where
  pub place : ℕ
  pub live : IsLiveAt log place
  pub is : rank log place ≡ n

-- and each place that is left is the rank of one
pub from_rank : (log : List Entry) (n : ℕ) → n < length (filter (λ (x : Entry). x.is_live) log) → HasRank log n
from_rank [] n l = absurd (omega (arith, l))
from_rank (e ∷ log) zero l = ⊎_elim
    (λ yes. record { place = 0; live = yes; is = refl })
    (λ no. let r = from_rank log zero (grind arith) in record { place = suc r.place; live = r.live; is = grind (arith, r.is) })
    (cases_Bool e.is_live)
from_rank (e ∷ log) (suc n) l = ⊎_elim
    (λ yes. let r = from_rank log n (grind arith) in record { place = suc r.place; live = r.live; is = grind (arith, r.is) })
    (λ no. let r = from_rank log (suc n) (grind arith) in record { place = suc r.place; live = r.live; is = grind (arith, r.is) })
    (cases_Bool e.is_live)

-- places of live commands, no two of them the same, are no more than there are
pub few_live : (key : ℕ → ℕ) (ks : List ℕ) (log : List Entry) → AreAscending key ks → ((i : ℕ) → i < length ks → IsLiveAt log (get_or ks i 0)) → length ks ≤ length (live_in log)
few_live key [] log up live = omega arith
few_live key (k ∷ ks) log up live =
    let here : IsLiveAt log k = live 0 (omega arith) in
    let rest = few_live key ks (set log k (ended (entry_at log k)))
    (λ i j d lt l. up (suc i) (suc j) d (omega (arith, lt)) (omega (arith, l)))
    (λ i l.
    let u : key k < key (get_or ks i 0) = up 0 (suc i) 0 (omega arith) (omega (arith, l)) in
    ap (λ (e : Entry). e.is_live) (get_or-set_other log k (get_or ks i 0) (ended (entry_at log k)) NOTHING (λ same. let s = ap key same in omega (arith, u, s))) ∙ live (suc i) (omega (arith, l))) in
    let fewer = one_fewer log k here in
    omega (arith, rest, fewer)

-- those that stand apart are no more than the live commands
pub few_others : (log : List Entry) {places : List ℕ} {crowded : List Bool} {others : List ℕ} → AreTagged log places crowded others → length others ≤ length (live_in log)
few_others log {others = others} tagged = few_live (tag_at log) others log tagged.sorted (other_live tagged)

-- the live commands closed up, and their places as they are then
pub renumbered : (log : List Entry) {places : List ℕ} {crowded : List Bool} {others : List ℕ} (tagged : AreTagged log places crowded others) (moved after : List ℕ) (marks : List Bool) → length marks ≡ 4096 → AreMarked log marks others → AreMoved log others moved → length after ≡ 4096
    → ((k : ℕ) → IsLiveAt log k → get_or places (group_of (tag_at log k)) 0 ≡ k → get_or after (group_of (tag_at log k)) 0 ≡ rank log k)
    → AreTagged (filter (λ (x : Entry). x.is_live) log) after marks moved
renumbered log {others = others} tagged moved after marks groups marked m size firsts =
    let kept = filter (λ (x : Entry). x.is_live) log in
    let long = m.long in
    let at : (i d : ℕ) → i < length others → (get_or moved i d ≡ rank log (get_or others i 0)) × (entry_at kept (rank log (get_or others i 0)) ≡ entry_at log (get_or others i 0)) × IsLiveAt log (get_or others i 0) =
    λ i d l. let live = other_live tagged i l in (m.at i d l, at_rank log _ live, live) in
    record {
      size = size;
      groups = groups;
      known = λ n live other.
          let r = from_rank log n (live_within kept n live) in
          let entry = at_rank log r.place r.live in
          let s = stands r.place others (grind (arith, r.is, r.live, tagged.known r.place, firsts r.place)) in
          grind (arith, r.is, s.inside, s.there, at s.place 0, times_at moved s.place);
      are_live = λ n some. let s = stands n moved some in grind (arith, s.inside, s.there, at s.place 0);
      sorted = λ i j d lt l. grind (arith, at i d, at j d, tagged.sorted i j 0);
      marked = λ n some. let s = stands n moved some in grind (arith, at s.place 0, marked (get_or others s.place 0), times_at others s.place);
    }

-- those that stand apart, by the ranks of all places
pub moved_by : (log : List Entry) (to others : List ℕ) → ((k : ℕ) → k < length log → get_or to k 0 ≡ rank log k) → ((i : ℕ) → i < length others → get_or others i 0 < length log) → AreMoved log others (map (λ k. get_or to k 0) others)
moved_by log to others ranks within = record { long = length-map others (λ k. get_or to k 0); at = λ i d l. get_or-map (λ k. get_or to k 0) others i 0 d l ∙ ranks _ (within i l) }

-- ---- the places of groups, one after the other

-- those that stood at the places of their groups stand there still: the ones before a place by their new places
pub record AreRenumbered (log : List Entry) (n : ℕ) (old places : List ℕ) : Type 0 where
  pub size : length places ≡ 4096
  pub done : (k : ℕ) → k < n → IsLiveAt log k → get_or old (group_of (tag_at log k)) 0 ≡ k → get_or places (group_of (tag_at log k)) 0 ≡ rank log k
  pub to_do : (k : ℕ) → n ≤ k → IsLiveAt log k → get_or old (group_of (tag_at log k)) 0 ≡ k → get_or places (group_of (tag_at log k)) 0 ≡ k

module _ (log : List Entry) (n group : ℕ) {old places : List ℕ} (before : AreRenumbered log n old places) (is : group ≡ group_of (tag_at log n)) where
  pub renumbered_here : get_or places group 0 ≡ n → (to : ℕ) → to ≡ rank log n → AreRenumbered log (n + 1) old (set places group to)
  renumbered_here here to ranked = record {
    size = length-set places group to ∙ before.size;
    done = λ k l live first. grind (arith, before.size, before.done k, before.to_do k, rank_below log k, get_or-set_other, get_or-set_same, group_below);
    to_do = λ k l live first. grind (arith, before.to_do k, get_or-set_other places group (group_of (tag_at log k)) to 0);
  }

  pub renumbered_past : get_or places group 0 ≢ n → AreRenumbered log (n + 1) old places
  renumbered_past away = record {
    size = before.size;
    done = λ k l live first. grind (arith, before.done k, before.to_do k);
    to_do = λ k l live first. before.to_do k (omega (arith, l)) live first;
  }

-- a command that ended stays where it is
pub renumbered_ended : (log : List Entry) (n : ℕ) {old places : List ℕ} → AreRenumbered log n old places → (entry_at log n).is_live ≡ false → AreRenumbered log (n + 1) old places
renumbered_ended log n before over = record {
  size = before.size;
  done = λ k l live first. grind (arith, before.done k, over);
  to_do = λ k l live first. before.to_do k (omega (arith, l)) live first;
}

-- ---- the live commands close up, one after the other

-- those before a place stand in front, as far as they are live, and the log goes on from it as it was
pub record IsClosing (old now : List Entry) (n live : ℕ) (old_places places hints : List ℕ) : Type 0 where
  pub long : length now ≡ length old
  pub next : live ≡ rank old n
  pub front : take live now ≡ filter (λ (x : Entry). x.is_live) (take n old)
  pub back : (k : ℕ) → n ≤ k → entry_at now k ≡ entry_at old k
  pub hinted : length hints ≡ 4096
  pub renumbered : AreRenumbered old n old_places places

module _ {old now : List Entry} {n live : ℕ} {old_places places hints : List ℕ} (c : IsClosing old now n live old_places places hints) (inside : n < length old) where
  more : take (n + 1) old ≡ take n old ++ entry_at old n ∷ []
  more = take_more old n NOTHING inside

  pub closing_live : IsLiveAt old n → (places' hints' : List ℕ) → length hints' ≡ 4096 → AreRenumbered old (n + 1) old_places places' → IsClosing old (set now live (entry_at old n)) (n + 1) (live + 1) old_places places' hints'
  closing_live here places' hints' hinted new =
      let low : live < length now = omega (arith, c.long, c.next, rank_below old n, inside) in
      let one : filter (λ (x : Entry). x.is_live) (entry_at old n ∷ []) ≡ entry_at old n ∷ [] = grind (arith, here) in
      let all : filter (λ (x : Entry). x.is_live) (take (n + 1) old) ≡ filter (λ (x : Entry). x.is_live) (take n old) ++ entry_at old n ∷ [] = rw (more, filter-append, one) in
      record {
        long = length-set now live (entry_at old n) ∙ c.long;
        next = omega (arith, c.next, rank_more old n inside, ap {B = ℕ} (λ b. cond b 1 0) here);
        front = take_more_set now live (entry_at old n) low ∙ ap (λ es. es ++ entry_at old n ∷ []) c.front ∙ sym all;
        back = λ k l. get_or-set_other now live k (entry_at old n) NOTHING (λ same. omega (arith, same, l, c.next, rank_below old n)) ∙ c.back k (omega (arith, l));
        hinted = hinted;
        renumbered = new;
      }

  pub closing_ended : (entry_at old n).is_live ≡ false → IsClosing old now (n + 1) live old_places places hints
  closing_ended over =
      let none : filter (λ (x : Entry). x.is_live) (entry_at old n ∷ []) ≡ [] = grind (arith, over) in
      record {
        long = c.long;
        next = omega (arith, c.next, rank_more old n inside, ap {B = ℕ} (λ b. cond b 1 0) over);
        front = c.front ∙ sym (rw (more, filter-append, none) (append-nil (filter (λ (x : Entry). x.is_live) (take n old))));
        back = λ k l. c.back k (omega (arith, l));
        hinted = c.hinted;
        renumbered = renumbered_ended old n c.renumbered over;
      }
