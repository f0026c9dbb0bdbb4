-- Parts in order.
use Rattle.std.proofs.Common.{◌≡◌, refl, ap, List, [], ◌∷◌, ◌++◌, map}
use Rattle.sw_tree_work.specs.Forms.{all_in_order, in_order}
use Rattle.sw_tree_work.specs.Work.{Before, Work}

pub parts_in_order : (some more : List Before) (rest : Work)
    → all_in_order (some ++ more) rest ≡ all_in_order some (all_in_order more rest)
parts_in_order [] more rest = refl
parts_in_order (one ∷ some) more rest = ap one (parts_in_order some more rest)

-- the parts that a function gives, in order
pub mapped_in_order : {A B : Type 0} (work : B → Before) (f : A → B) (xs : List A) (rest : Work)
    → in_order work (map f xs) rest ≡ in_order (λ x. work (f x)) xs rest
mapped_in_order work f [] rest = refl
mapped_in_order work f (x ∷ xs) rest = ap (work (f x)) (mapped_in_order work f xs rest)
