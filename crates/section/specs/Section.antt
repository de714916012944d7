-- Document 01, "The station sheet", and document 02, request 1: the sections, their places and limits.
--   bytes_at t p   == the bytes of the part p of t
--   over_limit s t == the refusal of a text t over the limit of its section s
-- Assumes nothing: these are definitions.
use Rattle.std.specs.Prelude.{ℕ, List, length, take, drop, ltb, Option}
use Rattle.text.specs.Basics.{given}
use Rattle.section.specs.declared.Fault.TheVariants as F
use Rattle.section.specs.declared.Part.{Part}
use Rattle.section.specs.declared.Refusal.{Refusal}
use Rattle.section.specs.Refusal.{refusal}

abbrev pub part : ℕ → ℕ → Part
part at n = record { place = at; len = n }

abbrev pub bytes_at : List ℕ → Part → List ℕ
bytes_at t p = take p.len (drop p.place t)

-- "Each section knows its own limit and its place"
pub record Section : Type 0 where
  pub order : ℕ
  pub limit : ℕ

-- "Four sections in this order: allow, deny, byuid, portacl."
-- "allow 16,384 bytes, deny 16,384, byuid 8,192, portacl 1,024"; request 10: "Raise portacl from 1,024 bytes to 4,096."
abbrev pub allow : Section
allow = record { order = 1; limit = 16384 }

abbrev pub deny : Section
deny = record { order = 2; limit = 16384 }

abbrev pub byuid : Section
byuid = record { order = 3; limit = 8192 }

abbrev pub portacl : Section
portacl = record { order = 4; limit = 4096 }

-- "Tables travel in a fifth section .. the whole section at most 12,288 bytes"; over it is 17, not 2
abbrev pub tables : Section
tables = record { order = 5; limit = 12288 }

-- 2: "a section's count, or a text handed in directly, is over its limit"
abbrev pub over_limit : Section → List ℕ → Option Refusal
over_limit s t = given (ltb s.limit (length t)) (refusal F.OverLimit s.order 0)
