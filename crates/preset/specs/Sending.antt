-- Charges of each kind as entries of a preset. Assumes nothing.
use Rattle.std.specs.Prelude.{ℕ, pos}
use Rattle.charge.specs.Groups.{Kind}
use Rattle.charge.specs.declared.kind.ChargeKind.{ChargeKind}
use Rattle.charge.specs.declared.voices.Voices.{Voices}
use Rattle.charge.specs.declared.pitch.Pitch.{Pitch}
use Rattle.charge.specs.declared.channels.Channels.{Channels}
use Rattle.charge.specs.declared.both.Both.{Both}
use Rattle.charge.specs.declared.cents.Cents.{Cents}
use Rattle.charge.specs.declared.kind.ChargeKind.TheVariants as kind
use Rattle.charge.specs.Kinds.{class_of, voices, pitch, channels, both, cents}
use Rattle.preset.specs.declared.entry.Entry.{Entry}

-- Which of the delivered kinds the charges are of, and the entry that each is sent as.
pub record Sending (C : Type 0) : Type 0 where
  pub named : ChargeKind
  pub entry : C → Entry

abbrev pub voices_sending : Sending Voices
voices_sending = record { named = kind.Voices; entry = λ v. record { signed = v.count; plain = 0 } }

abbrev pub pitch_sending : Sending Pitch
pitch_sending = record { named = kind.Pitch; entry = λ p. record { signed = pos 0; plain = class_of p } }

abbrev pub channels_sending : Sending Channels
channels_sending = record { named = kind.Channels; entry = λ c. record { signed = pos 0; plain = c.bits } }

abbrev pub both_sending : Sending Both
both_sending = record { named = kind.Both; entry = λ b. record { signed = b.voices.count; plain = class_of b.pitch } }

-- cents are sent as the number that they mean, so that charges of one meaning are sent alike
abbrev pub cents_sent : Cents → ℕ
cents_sent c = (cents.means c).value

abbrev pub cents_sending : Sending Cents
cents_sending = record { named = kind.Cents; entry = λ c. record { signed = pos 0; plain = cents_sent c } }

-- A delivered kind: its charges, what they mean and how they are sent.
pub record Delivered : Type 1 where
  pub Charges : Type 0
  pub meaning : Kind Charges
  pub sending : Sending Charges

-- the kind that a preset names: what is said of each kind goes by this
abbrev pub delivered : ChargeKind → Delivered
delivered kind.Voices = record { Charges = Voices; meaning = voices; sending = voices_sending }
delivered kind.Pitch = record { Charges = Pitch; meaning = pitch; sending = pitch_sending }
delivered kind.Channels = record { Charges = Channels; meaning = channels; sending = channels_sending }
delivered kind.Both = record { Charges = Both; meaning = both; sending = both_sending }
delivered kind.Cents = record { Charges = Cents; meaning = cents; sending = cents_sending }
