mod Looking
mod Ended
