-- The number and the text of each fault.
use Rattle.std.specs.Prelude.{ℕ, ℤ, negsuc, List, codes}
use Rattle.sw_lsp_text.specs.declared.fault.Fault.{Fault}
use Rattle.sw_lsp_text.specs.declared.fault.Fault.TheVariants as fault

-- `negsuc n` is the number -(n + 1)
abbrev pub fault_code : Fault → ℤ
fault_code fault.NoJson = negsuc 32699
fault_code fault.NoRequest = negsuc 32599
fault_code fault.NoMethod = negsuc 32600
fault_code fault.BadParams = negsuc 32601
fault_code fault.NotInitialized = negsuc 32001
fault_code fault.Internal = negsuc 32602

abbrev pub fault_text : Fault → List ℕ
fault_text fault.NoJson = codes "the message is no JSON"
fault_text fault.NoRequest = codes "the message is no request that may be sent now"
fault_text fault.NoMethod = codes "the method isn't known"
fault_text fault.BadParams = codes "the parameters lack what they must have"
fault_text fault.NotInitialized = codes "the server isn't initialized"
fault_text fault.Internal = codes "the server can't answer"
