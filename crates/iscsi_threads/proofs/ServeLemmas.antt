-- What comes back from the threads.
use Rattle.std.specs.Prelude.{◌≡◌, ℕ, zero, suc, ◌<◌, Bool, IsTrue, List, [], ◌∷◌, ◌++◌, length, map, replicate, refl, Vec}
use Rattle.std.specs.declared.alloc.Global.{Global}
use Rattle.std.specs.declared.thread.PromisedHandle.{PromisedHandle}
use Rattle.std.proofs.Common.{ap, sym, subst, ◌∙◌, arith, get_or}
use mathlib.Core.List.{IsPrefix}
use Rattle.iscsi_threads.specs.declared.port.Port.{Port}
use Rattle.iscsi_threads.specs.declared.port.UnitPort.{UnitPort}
use Rattle.iscsi_threads.specs.declared.posting.Posted.{Posted}
use Rattle.iscsi_threads.specs.declared.posting.Posts.{Posts}
use Rattle.iscsi_threads.specs.declared.working.Works.{Works}
use Rattle.iscsi_threads.specs.rules.Ports.{posted, taken, answered, port_ring, unit_rings}
use Rattle.iscsi_threads.specs.promises.Outcomes.{ticket_of}
use Rattle.iscsi_threads.specs.rules.Works.{InTurn, AllAnswered, ticket_answered}
use Rattle.iscsi_threads.specs.private.Promises.{AllPosts, AllPostedOn, AllWorks, AllWorkedOn}
use Rattle.iscsi_threads.proofs.Lists.{some_of, map_at, same_length}
use Rattle.iscsi_threads.proofs.PostLemmas.{less_whole}
use Rattle.iscsi_threads.proofs.Steps.{map_equal}

-- f of each is empty
pub each_empty : {A B : Type 0} (f : A → List B) (xs : List A) (n : ℕ) → map f xs ≡ replicate n [] → (i : ℕ) (d : A) → i < length xs → f (get_or xs i d) ≡ []
each_empty f [] n h i d lt = absurd (omega arith)
each_empty f (x ∷ xs) zero h i d lt = absurd cc
each_empty f (x ∷ xs) (suc n) h zero d lt = cc
each_empty {A} {B} f (x ∷ xs) (suc n) h (suc i) d lt = let rest : map f xs ≡ replicate n [] = cc in each_empty f xs n rest i d (omega arith)

-- f of these is g of those, at each place
pub pairwise : {A B C : Type 0} (f : A → C) (g : B → C) (xs : List A) (ys : List B) → length xs ≡ length ys
    → ((k : ℕ) (x : A) (y : B) → k < length xs → f (get_or xs k x) ≡ g (get_or ys k y)) → map f xs ≡ map g ys
pairwise f g [] [] len same = refl
pairwise f g [] (y ∷ ys) len same = absurd (omega arith)
pairwise f g (x ∷ xs) [] len same = absurd (omega arith)
pairwise {A} {B} {C} f g (x ∷ xs) (y ∷ ys) len same =
    let first : f x ≡ g y = same zero x y (omega arith) in
    let rest : map f xs ≡ map g ys = pairwise f g xs ys (omega arith) (λ k a b lt. same (suc k) a b (omega arith)) in cc

-- a unit port through which nothing went
pub none_answered : (units : List UnitPort) (n : ℕ) → map taken units ≡ replicate n [] → map answered units ≡ replicate n [] → (i : ℕ) (d : UnitPort) → i < length units → AllAnswered (get_or units i d)
none_answered units n took gave i d lt =
    ap (map ticket_answered) (each_empty answered units n gave i d lt) ∙ sym (ap (map ticket_of) (each_empty taken units n took i d lt))

-- fewer are said to be whole
pub posted_less : (hs : List (PromisedHandle Posted Posts)) (ports : List Port) (a b : Bool) (n : ℕ) → (IsTrue b → IsTrue a) → AllPostedOn hs ports a n → AllPostedOn hs ports b n
posted_less hs ports a b n less all = λ i h q lt. less_whole _ _ _ a b less (all i h q lt)

-- the ports come back, each with a front of its list posted, or the whole of it
pub record PostsBack (ports ports' : List Port) (lists : List (Vec (List ℕ) Global)) (are_whole : Bool) : Type 0 where
  pub rings : map port_ring ports' ≡ map port_ring ports
  pub fronts : (i : ℕ) (p q : Port) (l : Vec (List ℕ) Global) → i < length ports → IsPrefix (posted (get_or ports' i q)) (posted (get_or ports i p) ++ (get_or lists i l).items)
  pub posted_more : IsTrue are_whole → (i : ℕ) (p q : Port) (l : Vec (List ℕ) Global) → i < length ports → posted (get_or ports' i q) ≡ posted (get_or ports i p) ++ (get_or lists i l).items

pub posts_back : (hs : List (PromisedHandle Posted Posts)) (ports ports' : List Port) (lists : List (Vec (List ℕ) Global)) (are_whole : Bool)
    → length hs ≡ length ports → length ports' ≡ length ports → length lists ≡ length ports
    → AllPosts hs ports lists (length ports) → AllPostedOn hs ports' are_whole (length ports) → PostsBack ports ports' lists are_whole
posts_back hs ports ports' lists are_whole handles len many started done = record {
  rings = map_equal port_ring ports ports' len (λ i p q lt.
      let h = some_of hs i (omega (arith, handles)) in let l = some_of lists i (omega (arith, many)) in
      (done i h q lt).ring ∙ ap port_ring (started i h p l lt).0);
  fronts = λ i p q l lt.
      let h = some_of hs i (omega (arith, handles)) in
      subst (IsPrefix (posted (get_or ports' i q))) (listed i h p l lt) (done i h q lt).front;
  posted_more = λ yes i p q l lt. let h = some_of hs i (omega (arith, handles)) in (done i h q lt).whole yes ∙ listed i h p l lt;
}
  where
    listed : (i : ℕ) (h : PromisedHandle Posted Posts) (p : Port) (l : Vec (List ℕ) Global) → i < length ports
        → posted (get_or hs i h).promise.port.value ++ (get_or hs i h).promise.list.now ≡ posted (get_or ports i p) ++ (get_or lists i l).items
    listed i h p l lt =
        ap (λ (x : Port). posted x ++ (get_or hs i h).promise.list.now) (started i h p l lt).0 ∙ ap (λ (x : List (List ℕ)). posted (get_or ports i p) ++ x) (started i h p l lt).1

-- what was posted of lists, on ports through which nothing went before
pub record ListsPosted (lists : List (Vec (List ℕ) Global)) (ports : List Port) (are_whole : Bool) : Type 0 where
  pub fronts : (i : ℕ) (p : Port) (x : Vec (List ℕ) Global) → i < length lists → IsPrefix (posted (get_or ports i p)) (get_or lists i x).items
  pub posted_are : IsTrue are_whole → (i : ℕ) (p : Port) (x : Vec (List ℕ) Global) → i < length lists → posted (get_or ports i p) ≡ (get_or lists i x).items

pub lists_posted : (ports back ends : List Port) (lists : List (Vec (List ℕ) Global)) (n : ℕ) (are_whole : Bool)
    → length lists ≡ length ports → length back ≡ length ports → map posted ports ≡ replicate n [] → map posted ends ≡ map posted back
    → PostsBack ports back lists are_whole → ListsPosted lists ends are_whole
lists_posted ports back ends lists n are_whole many counts empty same b = record {
  fronts = λ i p x lt.
      let low : i < length ports = omega (arith, lt, many) in
      let q = some_of back i (omega (arith, low, counts)) in let r = some_of ports i low in
      let xs = (get_or lists i x).items in
      subst (λ (w : List (List ℕ)). IsPrefix w xs) (sym (moved i p q low))
      (subst (λ (w : List (List ℕ)). IsPrefix (posted (get_or back i q)) (w ++ xs)) (each_empty posted ports n empty i r low) (b.fronts i r q x low));
  posted_are = λ yes i p x lt.
      let low : i < length ports = omega (arith, lt, many) in
      let q = some_of back i (omega (arith, low, counts)) in let r = some_of ports i low in
      moved i p q low ∙ b.posted_more yes i r q x low ∙ ap (λ (w : List (List ℕ)). w ++ (get_or lists i x).items) (each_empty posted ports n empty i r low);
}
  where
    moved : (i : ℕ) (p q : Port) → i < length ports → posted (get_or ends i p) ≡ posted (get_or back i q)
    moved i p q low =
        let len : length ends ≡ length back = same_length posted posted ends back same in
        map_at posted posted ends back i p q same (omega (arith, low, counts, len)) (omega (arith, low, counts))

-- the unit ports come back, each with its jobs answered in turn
pub record WorksBack (units units' : List UnitPort) : Type 0 where
  pub rings : map unit_rings units' ≡ map unit_rings units
  pub in_turn : (i : ℕ) (q : UnitPort) → i < length units → InTurn (get_or units' i q)

pub works_back : (hs : List (PromisedHandle UnitPort Works)) (units units' : List UnitPort)
    → length hs ≡ length units → length units' ≡ length units → AllWorks hs units (length units) → AllWorkedOn hs units' (length units) → WorksBack units units'
works_back hs units units' handles len started done = record {
  rings = map_equal unit_rings units units' len (λ i p q lt. let h = some_of hs i (omega (arith, handles)) in (done i h q lt).0 ∙ ap unit_rings (started i h p lt));
  in_turn = λ i q lt. let h = some_of hs i (omega (arith, handles)) in (done i h q lt).1;
}
