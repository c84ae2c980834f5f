-- What a practice day keeps of a security.
use Rattle.std.specs.Prelude.{Some, None, Option}
use Rattle.inquiry.specs.declared.security_state.SecurityState.{SecurityState}
use Rattle.inquiry.specs.declared.security_state.SecurityState.TheVariants.{Trading, Quoting, Paused, Halted}
use Rattle.states.specs.declared.security_status.PostedAction.{PostedAction}
use Rattle.states.specs.declared.security_status.PostedAction.TheVariants.{Halt, Pause, Quote, Trade}
use Rattle.states.specs.declared.security_status.SecurityStatus.{SecurityStatus}

abbrev pub fresh_security : SecurityStatus
fresh_security = record { state = Trading; posted = 0 }

-- halt leads from trading, quoting and paused to halted, pause from trading to paused, quote from halted and paused to quoting, and
-- trade from quoting to trading
abbrev pub leads_to : SecurityState → PostedAction → Option SecurityState
leads_to Trading Halt = Some Halted
leads_to Trading Pause = Some Paused
leads_to Trading Quote = None
leads_to Trading Trade = None
leads_to Quoting Halt = Some Halted
leads_to Quoting Pause = None
leads_to Quoting Quote = None
leads_to Quoting Trade = Some Trading
leads_to Paused Halt = Some Halted
leads_to Paused Pause = None
leads_to Paused Quote = Some Quoting
leads_to Paused Trade = None
leads_to Halted Halt = None
leads_to Halted Pause = None
leads_to Halted Quote = Some Quoting
leads_to Halted Trade = None
