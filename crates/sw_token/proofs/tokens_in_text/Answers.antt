use Rattle.sw_token.proofs.TokenLaws.{IsTokens-each, IsTokens-order, IsTokens-few, IsTokens-most}
use Rattle.sw_token.proofs.TokenLaws.{IsTokens-borders, IsLexicalFault-inside}
use Rattle.sw_token.proofs.tokens_in_text.Goals as goal

pub returns-clause-each : goal.returns-clause-each
returns-clause-each c = IsTokens-each

pub returns-clause-order : goal.returns-clause-order
returns-clause-order c = IsTokens-order

pub returns-clause-few : goal.returns-clause-few
returns-clause-few c = IsTokens-few

pub returns-clause-most : goal.returns-clause-most
returns-clause-most c = IsTokens-most

pub returns-clause-borders : goal.returns-clause-borders
returns-clause-borders c = IsTokens-borders

pub returns-clause-inside : goal.returns-clause-inside
returns-clause-inside c = IsLexicalFault-inside
