-- The codes that go with a reject or a cut.
use Rattle.std.specs.Prelude.{ℕ}
use Rattle.verdicts.specs.declared.code.Code.{Code}
use Rattle.verdicts.specs.declared.code.Code.TheVariants.{Header, NotOpen, SecurityIdentifier, TradeVolume, SaleCondition, SellerDays, Side, ActionTime, ExemptFlag, TradingAction, TradeId}

abbrev pub code_number : Code → ℕ
code_number Header = 0
code_number NotOpen = 11
code_number SecurityIdentifier = 26
code_number TradeVolume = 29
code_number SaleCondition = 31
code_number SellerDays = 32
code_number Side = 33
code_number ActionTime = 60
code_number ExemptFlag = 87
code_number TradingAction = 88
code_number TradeId = 92
