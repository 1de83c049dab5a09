-- The rules of ticket 10 over one end, for every class: what is sent, and what each message does.
-- Assumes nothing.
use Rattle.std.specs.Prelude.{ℕ, ◌+◌, min, Bool, leb, ltb, eqb}
use Rattle.basics.specs.Choice.{pick, ◌and◌, ◌or◌}
use Rattle.vio_message.specs.declared.Message.{Message}
use Rattle.vio_model.specs.declared.Session.{Session}
use Rattle.vio_model.specs.declared.Session.TheVariants.{Nothing, Asked, Agreed, Ended}
use Rattle.vio_model.specs.declared.Effect.{Effect}
use Rattle.vio_model.specs.declared.Effect.TheVariants.{Ignored, Becomes, Sends}
use Rattle.vio_model.specs.Layout.{End}
use Rattle.vio_model.specs.Versions.{holds, minor_of, highest_below}

-- 004, 1.1.1: "VIO_TYPE_CTRL 0x01", "VIO_SUBTYPE_INFO 0x01", "VIO_SUBTYPE_ACK 0x02", "VIO_VER_INFO 0x0001"; the ticket: "NACK is 0x04"
abbrev pub CTRL : ℕ
CTRL = 0x01

abbrev pub INFO : ℕ
INFO = 0x01

abbrev pub ACK : ℕ
ACK = 0x02

abbrev pub NACK : ℕ
NACK = 0x04

abbrev pub VER-INFO : ℕ
VER-INFO = 0x0001

-- a CTRL/subtype/VER_INFO message
unfoldable pub message : ℕ → ℕ → ℕ → ℕ → ℕ → Message
message subtype id class major minor = record {
  session = id;
  envelope = VER-INFO;
  subtype = subtype;
  kind = CTRL;
  class = class;
  minor = minor;
  major = major;
}

-- a message received is one
unfoldable pub is_version : ℕ → Message → Bool
is_version subtype m = eqb m.kind CTRL and eqb m.envelope VER-INFO and eqb m.subtype subtype

-- a request for a major held: "a CTRL/INFO/VER_INFO sent .. at any time resets the session, drops an open request"
unfoldable pub asks : End → ℕ → ℕ → Effect
asks e id major =
    Sends (Asked id major (minor_of e.versions major))
    (message INFO id e.class major (minor_of e.versions major))

-- The starter's next request, for its highest major below a bound: "asks its highest major first, then its highest at or below the one
-- told". Where it has none the try has ended.
unfoldable pub asking : End → ℕ → ℕ → Effect
asking e id bound =
    pick (eqb (highest_below e.versions bound) 0)
    (Becomes Ended)
    (asks e id (highest_below e.versions bound))

-- Answers: "Answers keep the request's session id and class". A request received "resets the session, drops an open request and takes the
-- sender's session id".
-- The major is held: "If the major version is supported but not at the specified minor version level, the receiver will ACK back with a
-- lower supported minor version number" (004).
unfoldable pub acknowledges : End → Message → Effect
acknowledges e m =
    Sends (Agreed m.session m.major (min m.minor (minor_of e.versions m.major)))
    (message ACK m.session m.class m.major (min m.minor (minor_of e.versions m.major)))

-- "a major not held is refused with the next lower one and its minor, or 0 and 0": no version has major 0
unfoldable pub tells_lower : End → Message → Effect
tells_lower e m =
    Sends Nothing
    (message NACK m.session m.class (highest_below e.versions m.major)
    (minor_of e.versions (highest_below e.versions m.major)))

-- "a wrong class is refused with the parameters unchanged"
unfoldable pub refuses_class : End → Message → Effect
refuses_class e m = Sends Nothing (message NACK m.session m.class m.major m.minor)

-- what a request does
unfoldable pub requested : End → Message → Effect
requested e m =
    pick (eqb m.class e.accepts)
    (pick (holds e.versions m.major) (acknowledges e m) (tells_lower e m))
    (refuses_class e m)

-- What an answer does to the open request of this session id, major and minor; "an answer that no open request could get by these rules ..
-- changes nothing and is not answered".
-- An acknowledgement is of the major asked, at a minor that is not above the one asked.
unfoldable pub acknowledged : ℕ → ℕ → ℕ → Message → Effect
acknowledged id major minor m =
    pick (eqb m.major major and leb m.minor minor) (Becomes (Agreed id major m.minor)) Ignored

-- A refusal has the parameters unchanged, "which ends the try", or it tells a lower major, with any minor, or 0 and 0. It is followed by the
-- next request, for the highest major "at or below the one told", or the try has ended.
unfoldable pub refused : End → ℕ → ℕ → ℕ → Message → Effect
refused e next major minor m =
    pick (eqb m.major major and eqb m.minor minor) (Becomes Ended)
    (pick (ltb m.major major and (ltb 0 m.major or eqb m.minor 0)) (asking e next (m.major + 1)) Ignored)

unfoldable pub answers_open : End → ℕ → ℕ → ℕ → ℕ → Message → Effect
answers_open e next id major minor m =
    pick (eqb m.session id and eqb m.class e.class)
    (pick (is_version ACK m) (acknowledged id major minor m)
    (pick (is_version NACK m) (refused e next major minor m) Ignored))
    Ignored

-- what any message but a request does: without an open request nothing
unfoldable pub answered : End → ℕ → Session → Message → Effect
answered e next Nothing m = Ignored
answered e next (Asked id major minor) m = answers_open e next id major minor m
answered e next (Agreed id major minor) m = Ignored
answered e next Ended m = Ignored

-- what a message does; `next` is the session id of the request that may be sent next
unfoldable pub heard : End → ℕ → Message → Effect
heard e next m = pick (is_version INFO m) (requested e m) (answered e next e.session m)
