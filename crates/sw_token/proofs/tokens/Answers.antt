use Rattle.std.proofs.Common.{◌≡◌, ◌∙◌}
use Rattle.std.proofs.lemmas.Str.{IsCharBoundary-start}
use Rattle.sw_token.specs.Reading.{Lexes, tokens_or_fault}
use Rattle.sw_token.proofs.TokenLaws.{whole_slice, IsTokens-lexed, IsLexicalFault-lexed}
use Rattle.sw_token.proofs.TokenLaws.{tokens_or_fault-IsTokens, tokens_or_fault-IsLexicalFault}
use Rattle.sw_token.proofs.tokens.Goals as goal
use Rattle.sw_token.proofs.tokens.Goals.{After-tokens_of}

pub slice-requires-clause-start : goal.slice-requires-clause-start
slice-requires-clause-start c = IsCharBoundary-start c.args.source.now c.len.ensures.utf8

exact_is : (c : After-tokens_of) → Lexes (tokens_or_fault c.args.source.now) c.tokens_of.result
exact_is c =
    let cut = whole_slice c.args.source.now c.len.result c.len.ensures.value in
    let whole : c.slice.result.now ≡ c.args.source.now = c.slice.ensures ∙ cut in
    rw whole at c.tokens_of.ensures

pub returns-clause-found : goal.returns-clause-found
returns-clause-found c =
    IsTokens-lexed c.args.source.now c.tokens_of.result c.len.ensures.utf8 (exact_is c)

pub returns-clause-fault : goal.returns-clause-fault
returns-clause-fault c =
    IsLexicalFault-lexed c.args.source.now c.tokens_of.result c.len.ensures.utf8 (exact_is c)

pub returns-clause-only : goal.returns-clause-only
returns-clause-only c =
    λ tokens is. rw (tokens_or_fault-IsTokens c.args.source.now tokens is) at (exact_is c)

pub returns-clause-only_fault : goal.returns-clause-only_fault
returns-clause-only_fault c =
    λ fault is. rw (tokens_or_fault-IsLexicalFault c.args.source.now fault is) at (exact_is c)

pub returns-clause-exact : goal.returns-clause-exact
returns-clause-exact c = exact_is c
