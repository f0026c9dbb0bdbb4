-- Groups of region operations, of which the table of operations is made. `marks` are tracked
-- operands, and `r` is the element of the register that is set, none where it isn't tracked.
use Rattle.std.specs.Prelude.{ℕ, Option, Some, None, List, [], ◌∷◌, ◌++◌, map, flat_map}
use Rattle.sw_region_ops.specs.declared.marks.Mark.{Mark}
use Rattle.sw_region_ops.specs.declared.op.Op.{Op}
use Rattle.sw_region_ops.specs.declared.op.Op.TheVariants.{Need, Free, Fresh, Put, Join, Give}

abbrev pub need_each : List Mark → List Op
need_each marks = map (λ mark. Need mark.x mark.at) marks

abbrev pub free_each : ℕ → List Mark → List Op
free_each code marks = map (λ mark. Free mark.x mark.at code) marks

abbrev pub give_each : ℕ → List Mark → List Op
give_each site marks = map (λ mark. Give mark.x site) marks

-- each is freed and at once given away
abbrev pub send_each : ℕ → ℕ → List Mark → List Op
send_each code site marks =
    flat_map (λ mark. Free mark.x mark.at code ∷ Give mark.x site ∷ []) marks

-- each goes to `Here`
abbrev pub join_here : List Mark → List Op
join_here marks = map (λ mark. Join mark.x 0) marks

abbrev pub join_with : ℕ → List Mark → List Op
join_with x marks = map (λ mark. Join x mark.x) marks

-- all come together
abbrev pub join_all : List Mark → List Op
join_all [] = []
join_all (mark ∷ marks) = join_with mark.x marks

-- each comes to the result
abbrev pub join_to : Option ℕ → List Mark → List Op
join_to None marks = []
join_to (Some r) marks = join_with r marks

abbrev pub fresh : Option ℕ → List Op
fresh None = []
fresh (Some r) = Fresh r ∷ []

-- the result is in the region of the code itself
abbrev pub put_here : Option ℕ → List Op
put_here None = []
put_here (Some r) = Put r 0 ∷ []

abbrev pub join_result_here : Option ℕ → List Op
join_result_here None = []
join_result_here (Some r) = Join r 0 ∷ []

-- the result is as the first of the operands, or alone where there is none
abbrev pub put_first : Option ℕ → List Mark → List Op
put_first None marks = []
put_first (Some r) [] = Fresh r ∷ []
put_first (Some r) (mark ∷ marks) = Put r mark.x ∷ []

-- operands that are used and come together
abbrev pub meet : List Mark → List Op
meet marks = need_each marks ++ join_all marks

-- operands that are used and go to `Here`
abbrev pub keep : List Mark → List Op
keep marks = need_each marks ++ join_here marks

-- operands that are given away together
abbrev pub part_with : ℕ → ℕ → List Mark → List Op
part_with code site marks = free_each code marks ++ give_each site marks

-- a copy of an operand or of a part of it
abbrev pub take_from : Option ℕ → List Mark → List Op
take_from r marks = need_each marks ++ put_first r marks

-- a new value that holds the operands
abbrev pub make_of : Option ℕ → List Mark → List Op
make_of r marks = need_each marks ++ fresh r ++ join_to r marks
