use Rattle.std.proofs.Common.{List, ℕ, Contains, get_or, sym, subst, arith}
use Rattle.std.proofs.lemmas.List.{take_more}
use Rattle.std.proofs.lemmas.List.Elements.{Contains-get_or}
use Rattle.sw_cert.proofs.Stated.{given_more}
use Rattle.sw_cert.proofs.states.give_all.Goals as goal

pub overflow_cast-pair : goal.overflow_cast-pair
overflow_cast-pair c =
    let is = c.requires.pairs.each _ (Contains-get_or c.args.pairs.now c.loop-pair.pair-index
    (record { element = 0; site = 0 }) c.loop-pair-test.true) in
    omega (arith, is.1, c.requires.few)

pub overflow_cast-pair-in-loop-pair : goal.overflow_cast-pair-in-loop-pair
overflow_cast-pair-in-loop-pair c =
    let is = c.requires.pairs.each _ (Contains-get_or c.args.pairs.now c.loop-pair.pair-index
    (record { element = 0; site = 0 }) c.loop-pair-test.true) in
    let small = c.requires.small _ is.2 in
    omega (arith, small)

pub give_one-requires-clause-element : goal.give_one-requires-clause-element
give_one-requires-clause-element c =
    let is = c.requires.pairs.each _ (Contains-get_or c.args.pairs.now c.loop-pair.pair-index
    (record { element = 0; site = 0 }) c.loop-pair-test.true) in
    omega (arith, is.1, c.loop-pair.invariant.elements_same)

pub give_one-requires-clause-not_here : goal.give_one-requires-clause-not_here
give_one-requires-clause-not_here c =
    let is = c.requires.pairs.each _ (Contains-get_or c.args.pairs.now c.loop-pair.pair-index
    (record { element = 0; site = 0 }) c.loop-pair-test.true) in
    is.0

pub give_one-requires-clause-site : goal.give_one-requires-clause-site
give_one-requires-clause-site c =
    let is = c.requires.pairs.each _ (Contains-get_or c.args.pairs.now c.loop-pair.pair-index
    (record { element = 0; site = 0 }) c.loop-pair-test.true) in
    subst (λ (l : List ℕ). Contains l (get_or c.args.pairs.now c.loop-pair.pair-index
    (record { element = 0; site = 0 })).site) (sym c.loop-pair.invariant.sites_same) is.2

pub loop-pair-preserved : goal.loop-pair-preserved
loop-pair-preserved c =
    given_more c.args.state.now c.loop-pair.state c.give_one.new.self _ _ _ c.loop-pair.invariant
    c.give_one.ensures
    (take_more c.args.pairs.now c.loop-pair.pair-index (record { element = 0; site = 0 })
    c.loop-pair-test.true)
