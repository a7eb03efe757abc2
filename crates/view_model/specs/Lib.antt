pub mod Lines
pub use Rattle.activity_codec.specs as activity_codec
