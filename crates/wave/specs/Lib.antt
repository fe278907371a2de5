pub mod SoundFile
