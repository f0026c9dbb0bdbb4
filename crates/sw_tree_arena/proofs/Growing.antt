-- What one node more changes, and what stays.
use Rattle.std.proofs.Common.{◌≡◌, ◌<◌, ◌≤◌, ◌∙◌, ℕ, ◌+◌, zero, suc, List, [], ◌∷◌, ◌++◌, length}
use Rattle.std.proofs.Common.{Some, None, Result, Ok, Err, refl, ap, sym, subst, get_or, slice_get}
use Rattle.std.proofs.Common.{arith, append-nil, append_assoc, length-append, take, drop}
use Rattle.std.proofs.Math.ListN.{get_or-append}
use Rattle.std.proofs.Math.Seq.{get_or-append_seam}
use Rattle.std.specs.declared.alloc.AllocError.{AllocError}
use Rattle.sw_types.specs.declared.shape.Shape.{Shape}
use Rattle.sw_tree_work.specs.Work.{Unknown, Work}
use Rattle.sw_tree_arena.specs.Nodes.{AreBelow, AreInOrder, Grows, LaysIn, given, node_work}
use Rattle.sw_tree_arena.specs.Nodes.{work_at, works_after}
use Rattle.sw_tree_arena.specs.declared.node.Node.{Node}
use Rattle.sw_tree_arena.specs.declared.node.Node.TheVariants as nodes

-- nodes are in order with one more
below_more : (bound : ℕ) (nodes : List Node) (node : Node)
    → ((number : ℕ) (one : Node) → slice_get nodes number ≡ Some one → AreBelow (bound + number) one)
    → AreBelow (bound + length nodes) node
    → (number : ℕ) (one : Node) → slice_get (nodes ++ node ∷ []) number ≡ Some one
    → AreBelow (bound + number) one
below_more bound [] node all last zero one is =
    let e : node ≡ one = cc in subst (AreBelow (bound + zero)) e last
below_more bound [] node all last (suc number) one is =
    let e : None ≡ Some one = is in cc
below_more bound (first ∷ nodes) node all last zero one is = all zero one is
below_more bound (first ∷ nodes) node all last (suc number) one is =
    let e : suc bound + number ≡ bound + suc number = omega arith in
    let f : bound + length (first ∷ nodes) ≡ suc bound + length nodes = omega arith in
    subst (λ k. AreBelow k one) e
    (below_more (suc bound) nodes node
    (λ n other so. subst (λ k. AreBelow k other) (moved bound n) (all (suc n) other so))
    (subst (λ k. AreBelow k node) f last) number one is)
  where
    moved : (b n : ℕ) → b + suc n ≡ suc b + n
    moved b n = omega arith

pub none_in_order : AreInOrder []
unfolding AreInOrder
none_in_order number node is = let e : None ≡ Some node = is in cc

pub one_more_in_order : (nodes : List Node) (node : Node) → AreInOrder nodes
    → AreBelow (length nodes) node → AreInOrder (nodes ++ node ∷ [])
unfolding AreInOrder
one_more_in_order nodes node all last number one is =
    subst (λ k. AreBelow k one) (none_added number)
    (below_more 0 nodes node
    (λ n other so. subst (λ k. AreBelow k other) (sym (none_added n)) (all n other so))
    (subst (λ k. AreBelow k node) (sym (none_added (length nodes))) last) number one is)
  where
    none_added : (n : ℕ) → 0 + n ≡ n
    none_added n = omega arith

pub in_order_at : (all : List Node) (number : ℕ) (node : Node) → AreInOrder all
    → slice_get all number ≡ Some node → AreBelow number node
unfolding AreInOrder
in_order_at all number node ordered here = ordered number node here

-- nodes that were there stay
pub grows_none : (old : List Node) → Grows old old
unfolding Grows
grows_none old = ([], sym (append-nil old))

pub grows_one : (old : List Node) (node : Node) → Grows old (old ++ node ∷ [])
unfolding Grows
grows_one old node = (node ∷ [], refl)

pub grows_all : (old new last : List Node) → Grows old new → Grows new last → Grows old last
unfolding Grows
grows_all old new last (one, is) (more, so) =
    (one ++ more, so ∙ ap (λ nodes. nodes ++ more) is ∙ append_assoc old one more)

grows_by : (old new added : List Node) → new ≡ old ++ added → Grows old new
unfolding Grows
grows_by old new added is = (added, is)

-- a list with an item, as what stands before it and what follows
parted : (all : List Node) (number : ℕ) (node : Node) → slice_get all number ≡ Some node
    → (all ≡ take number all ++ node ∷ drop (suc number) all) × (length (take number all) ≡ number)
parted [] number node here = let e : None ≡ Some node = here in cc
parted (first ∷ all) zero node here =
    let e : first ≡ node = cc in (ap (λ one. one ∷ all) e, refl)
parted (first ∷ all) (suc number) node here =
    let more = parted all number node here in (ap (λ nodes. first ∷ nodes) more.0, omega (arith, more.1))

pub longer : (old new : List Node) → Grows old new → length old ≤ length new
unfolding Grows
longer old new (one, is) = omega (arith, ap length is, length-append old one)

module _ (shapes : List Shape) where
  abbrev one_work : List Work → Node → Work
  one_work works node = node_work shapes (λ number. get_or works number Unknown) node

  after_more : (works : List Work) (nodes more : List Node)
      → works_after shapes works (nodes ++ more)
      ≡ works_after shapes (works_after shapes works nodes) more
  after_more works [] more = refl
  after_more works (node ∷ nodes) more =
      after_more (works ++ one_work works node ∷ []) nodes more

  count_after : (works : List Work) (nodes : List Node)
      → length (works_after shapes works nodes) ≡ length works + length nodes
  count_after works [] = omega arith
  count_after works (node ∷ nodes) = omega (
    arith,
    count_after (works ++ one_work works node ∷ []) nodes,
    length-append works (one_work works node ∷ []),
  )

  counted : (nodes : List Node) → length nodes ≡ length (works_after shapes [] nodes)
  counted nodes = omega (arith, count_after [] nodes)

  -- the works of nodes are the first of those of more nodes
  starts : (works : List Work) (nodes : List Node) (number : ℕ) → number < length works
      → get_or (works_after shapes works nodes) number Unknown ≡ get_or works number Unknown
  starts works [] number here = refl
  starts works (node ∷ nodes) number here =
      starts (works ++ one_work works node ∷ []) nodes number
      (omega (arith, length-append works (one_work works node ∷ [])))
      ∙ get_or-append works (one_work works node ∷ []) Unknown number here

  pub same_work : (old new : List Node) (number : ℕ) → Grows old new → number < length old
      → work_at shapes new number ≡ work_at shapes old number
  unfolding Grows work_at
  same_work old new number (one, is) here =
      ap (λ nodes. get_or (works_after shapes [] nodes) number Unknown) is
      ∙ ap (λ works. get_or works number Unknown) (after_more [] old one)
      ∙ starts (works_after shapes [] old) one number (omega (arith, count_after [] old))

  pub last_work : (nodes : List Node) (node : Node)
      → work_at shapes (nodes ++ node ∷ []) (length nodes)
      ≡ node_work shapes (work_at shapes nodes) node
  unfolding work_at
  last_work nodes node =
      let works = works_after shapes [] nodes in
      ap (λ works. get_or works (length nodes) Unknown) (after_more [] nodes (node ∷ []))
      ∙ ap (λ n. get_or (works_after shapes [] nodes
      ++ one_work (works_after shapes [] nodes) node ∷ []) n Unknown) (counted nodes)
      ∙ get_or-append_seam (works_after shapes [] nodes)
      (one_work (works_after shapes [] nodes) node) [] Unknown

  -- what a call gives
  pub given_at : (nodes : List Node) (wanted : Work) (number : ℕ)
      → given shapes nodes wanted (Ok number) ≡ work_at shapes nodes number
  unfolding given
  given_at nodes wanted number = refl

  pub given_none : (nodes : List Node) (wanted : Work) (fault : AllocError)
      → given shapes nodes wanted (Err fault) ≡ wanted
  unfolding given
  given_none nodes wanted fault = refl

  -- a node more, and none where memory ran out
  pub laid : (old new : List Node) (node : Node) (number : ℕ) → new ≡ old ++ node ∷ []
      → number ≡ length old
      → LaysIn shapes old new (Ok number) (node_work shapes (work_at shapes old) node)
  laid old new node number is here =
      let P : List Node → Type 0 = λ nodes. LaysIn shapes old nodes (Ok number)
      (node_work shapes (work_at shapes old) node) in
      let Q : ℕ → Type 0 = λ n. LaysIn shapes old (old ++ node ∷ []) (Ok n)
      (node_work shapes (work_at shapes old) node) in
      subst P (sym is) (subst Q (sym here) (record {
        stays = grows_one old node;
        here = omega (arith, length-append old (node ∷ []));
        is = given_at (old ++ node ∷ []) (node_work shapes (work_at shapes old) node) (length old)
            ∙ last_work old node;
      }))

  pub not_laid : (old new : List Node) (result : Result ℕ AllocError) (fault : AllocError)
      (wanted : Work) → new ≡ old → result ≡ Err fault → LaysIn shapes old new result wanted
  not_laid old new result fault wanted is failed =
      let P : List Node → Type 0 = λ nodes. LaysIn shapes old nodes result wanted in
      let Q : Result ℕ AllocError → Type 0 = λ r. LaysIn shapes old old r wanted in
      subst P (sym is) (subst Q (sym failed) (record {
        stays = grows_none old;
        here = tt;
        is = given_none old wanted fault;
      }))

  -- what a node is, by the works of the nodes that it names
  same_below : (bound : ℕ) (f g : ℕ → Work) (node : Node) → AreBelow bound node
      → ((number : ℕ) → number < bound → f number ≡ g number)
      → node_work shapes f node ≡ node_work shapes g node
  same_below bound f g (nodes.Then act rest) below same = rw (same rest below) refl
  same_below bound f g (nodes.New number names rest) below same = rw (same rest below) refl
  same_below bound f g (nodes.Close key captures params body rest) below same =
      rw (same body below.0, same rest below.1) refl
  same_below bound f g (nodes.Spawn key iso captures body rest) below same =
      rw (same body below.0, same rest below.1) refl
  same_below bound f g (nodes.Test one other) below same =
      rw (same one below.0, same other below.1) refl
  same_below bound f g (nodes.Switch shape ways) below same = rw (same ways below) refl
  same_below bound f g (nodes.Case name way others) below same =
      rw (same way below.0, same others below.1) refl
  same_below bound f g (nodes.Otherwise way) below same = rw (same way below) refl
  same_below bound f g (nodes.Jump rest) below same = rw (same rest below) refl
  same_below bound f g (nodes.Loop cond body rest) below same =
      rw (same cond below.0, same body below.1, same rest below.2) refl
  same_below bound f g nodes.Decide below same = refl
  same_below bound f g nodes.Again below same = refl
  same_below bound f g nodes.Leave below same = refl
  same_below bound f g nodes.Return below same = refl
  same_below bound f g nodes.Finish below same = refl
  same_below bound f g nodes.Unknown below same = refl

  parted_work : (before more : List Node) (node : Node) → AreBelow (length before) node
      → work_at shapes (before ++ node ∷ more) (length before)
      ≡ node_work shapes (work_at shapes (before ++ node ∷ more)) node
  parted_work before more node below =
      let grows : Grows (before ++ node ∷ []) (before ++ node ∷ more) =
      grows_by (before ++ node ∷ []) (before ++ node ∷ more) more
      (sym (append_assoc before (node ∷ []) more)) in
      let first : Grows before (before ++ node ∷ more) =
      grows_by before (before ++ node ∷ more) (node ∷ more) refl in
      same_work (before ++ node ∷ []) (before ++ node ∷ more) (length before) grows
      (omega (arith, length-append before (node ∷ [])))
      ∙ last_work before node
      ∙ same_below (length before) (work_at shapes before)
      (work_at shapes (before ++ node ∷ more)) node below
      (λ number here. sym (same_work before (before ++ node ∷ more) number first here))

  pub node_is : (all : List Node) (number : ℕ) (node : Node) → AreInOrder all
      → slice_get all number ≡ Some node
      → work_at shapes all number ≡ node_work shapes (work_at shapes all) node
  unfolding AreInOrder
  node_is all number node ordered here =
      let parts = parted all number node here in
      let P : List Node → Type 0 = λ nodes. work_at shapes nodes number
      ≡ node_work shapes (work_at shapes nodes) node in
      let Q : ℕ → Type 0 = λ n. work_at shapes (take number all ++ node ∷ drop (suc number) all) n
      ≡ node_work shapes (work_at shapes (take number all ++ node ∷ drop (suc number) all))
      node in
      subst P (sym parts.0) (subst Q parts.1
      (parted_work (take number all) (drop (suc number) all) node
      (subst (λ n. AreBelow n node) (sym parts.1) (ordered number node here))))

pub ruleset grown = (grows_none, grows_all, longer, same_work, given_at, given_none)
